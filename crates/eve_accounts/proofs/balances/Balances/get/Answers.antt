use Rattle.std.proofs.Common.{rules}
use Rattle.std.proofs.lemmas.Option.{slice_get_read}
use Rattle.eve_accounts.proofs.balances.Balances.get.Goals as goal

pub returns : goal.returns
returns c = search (rules, slice_get_read)
