use Rattle.std.proofs.Common.{rules}
use Rattle.eve_accounts.proofs.money.Amount.new.Goals as goal

pub returns-else-cents : goal.returns-else-cents
returns-else-cents c = search rules
