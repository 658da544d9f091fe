use Rattle.eve_token.proofs.Levels.{one-left}
use Rattle.eve_token.proofs.laws.one_hash_is_left.Goals as goal

pub returns : goal.returns
returns c = one-left
