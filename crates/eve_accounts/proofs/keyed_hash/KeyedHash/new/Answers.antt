use Rattle.std.proofs.Common.{rules}
use Rattle.eve_accounts.proofs.keyed_hash.KeyedHash.new.Goals as goal

pub returns : goal.returns
returns c = search rules
