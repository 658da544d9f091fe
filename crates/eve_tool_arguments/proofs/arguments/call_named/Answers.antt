-- Written, so that a wrong body fails soon.
use Rattle.std.proofs.Common.{rules}
use Rattle.eve_tool_arguments.proofs.arguments.call_named.Goals as goal

pub returns-in-explain-clause-call : goal.returns-in-explain-clause-call
returns-in-explain-clause-call c = search rules
