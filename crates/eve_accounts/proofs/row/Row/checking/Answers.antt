use Rattle.std.proofs.Common.{rules}
use Rattle.eve_accounts.proofs.row.Row.checking.Goals as goal

pub returns : goal.returns
returns c = search rules
