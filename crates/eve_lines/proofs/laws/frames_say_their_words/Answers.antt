use Rattle.eve_lines.proofs.WordsOfFrames.{says}
use Rattle.eve_lines.proofs.laws.frames_say_their_words.Goals as goal

pub returns : goal.returns
returns c = says c.transfers_tell_their_rows.ensures
