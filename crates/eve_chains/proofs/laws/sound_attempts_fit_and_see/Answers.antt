use Rattle.eve_chains.proofs.Soundness.{records_fit, entries_see, settled_sound}
use Rattle.eve_chains.proofs.laws.sound_attempts_fit_and_see.Goals as goal

pub returns : goal.returns
returns c = record { fit = records_fit; see = entries_see; sound = settled_sound }
