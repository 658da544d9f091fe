use Rattle.std.proofs.Common.{rules}
use Rattle.eve_grammar.proofs.transfer.is_no_debt.Goals as goal

pub returns-else-row-ne0 : goal.returns-else-row-ne0
returns-else-row-ne0 c = search rules
