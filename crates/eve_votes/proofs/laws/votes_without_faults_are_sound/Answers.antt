use Rattle.eve_votes.proofs.Faultless.{sound_votes}
use Rattle.eve_votes.proofs.laws.votes_without_faults_are_sound.Goals as goal

pub returns : goal.returns
returns c = sound_votes
