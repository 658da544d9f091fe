use Rattle.std.proofs.Common.{rules}
use Rattle.eve_grammar.proofs.limits.most_customers.Goals as goal

pub returns-then-version-eq1 : goal.returns-then-version-eq1
returns-then-version-eq1 c = search rules
