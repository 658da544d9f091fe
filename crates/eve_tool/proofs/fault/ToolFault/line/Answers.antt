-- Written, so that a wrong body fails soon.
use Rattle.std.proofs.Common.{rules}
use Rattle.eve_tool.proofs.fault.ToolFault.line.Goals as goal

pub returns : goal.returns
returns c = search rules
