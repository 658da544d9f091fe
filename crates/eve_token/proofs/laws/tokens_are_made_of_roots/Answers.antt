use Rattle.std.proofs.Common.{refl}
use Rattle.eve_token.specs.Token.{token_of}
use Rattle.eve_token.proofs.laws.tokens_are_made_of_roots.Goals as goal

pub returns : goal.returns
unfolding token_of
returns c = λ _ _ _. refl
