-- Written, so that a wrong body fails soon.
use Rattle.std.proofs.Common.{rules}
use Rattle.eve_tool_arguments.proofs.format.Format.named.Goals as goal

pub returns-then-eq-2 : goal.returns-then-eq-2
returns-then-eq-2 c = search rules
