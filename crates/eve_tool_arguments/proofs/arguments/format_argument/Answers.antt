use Rattle.std.proofs.Common.{rules}
use Rattle.eve_tool_arguments.proofs.arguments.format_argument.Goals as goal

pub returns-clause-rule : goal.returns-clause-rule
returns-clause-rule c = search rules
