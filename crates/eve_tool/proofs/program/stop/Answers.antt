-- Written, so that a wrong body fails soon.
use Rattle.std.proofs.Common.{rules}
use Rattle.eve_tool.proofs.program.stop.Goals as goal

pub returns-clause-told : goal.returns-clause-told
returns-clause-told g c = search rules
