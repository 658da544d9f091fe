use Rattle.std.proofs.Common.{rules}
use Rattle.eve_accounts.proofs.balances.Balances.copy.Goals as goal

pub returns : goal.returns
returns c = search rules
