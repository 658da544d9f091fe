-- Written, so that a wrong body fails soon.
use Rattle.std.proofs.Common.{rules}
use Rattle.eve_tool.proofs.fault.ToolFaultFromRunFault.from.Goals as goal

pub returns-in-Broken : goal.returns-in-Broken
returns-in-Broken c = search rules
