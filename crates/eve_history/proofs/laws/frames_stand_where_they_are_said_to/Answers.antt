use Rattle.eve_history.proofs.LentFrames.{frames_stand, steps_stand, accesses_stand, votes_stand}
use Rattle.eve_history.proofs.laws.frames_stand_where_they_are_said_to.Goals as goal

pub returns : goal.returns
returns c = record { frames = frames_stand; steps = steps_stand; accesses = accesses_stand; votes = votes_stand }
