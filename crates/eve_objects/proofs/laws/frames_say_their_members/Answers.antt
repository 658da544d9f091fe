use Rattle.eve_objects.proofs.MembersOfFrames.{says}
use Rattle.eve_objects.proofs.laws.frames_say_their_members.Goals as goal

pub returns : goal.returns
returns c = says c.transfers_tell_their_rows.ensures
