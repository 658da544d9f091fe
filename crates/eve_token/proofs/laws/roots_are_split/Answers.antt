use Rattle.eve_token.proofs.Levels.{root-split}
use Rattle.eve_token.proofs.laws.roots_are_split.Goals as goal

pub returns : goal.returns
returns c = root-split
