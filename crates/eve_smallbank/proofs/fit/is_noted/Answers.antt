use Rattle.std.proofs.Common.{rules}
use Rattle.eve_smallbank.proofs.fit.is_noted.Goals as goal

pub returns-then-eq-2 : goal.returns-then-eq-2
returns-then-eq-2 c = search rules
