use Rattle.std.proofs.Common.{rules}
use Rattle.eve_smallbank.proofs.decision.after_check.Goals as goal

pub returns-then-is_below : goal.returns-then-is_below
returns-then-is_below c = search rules

pub returns-else-is_below : goal.returns-else-is_below
returns-else-is_below c = search rules
