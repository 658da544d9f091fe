use Rattle.eve_token.proofs.SpelledReplies.{token-alike}
use Rattle.eve_token.proofs.laws.replies_are_hashed_as_spelled.Goals as goal

pub returns : goal.returns
returns c = token-alike
