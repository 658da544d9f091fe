use Rattle.eve_token.specs.Token.{flat_token}
use Rattle.eve_token.proofs.hash_flat.Goals as goal

pub returns : goal.returns
unfolding flat_token
returns c = c.finalize.ensures _ (c.hash_all.ensures _ c.hash_balances-hasher.ensures)
