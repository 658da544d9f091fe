use Rattle.eve_chains.proofs.Soundness.{records_fit, entries_see}
use Rattle.eve_chains.proofs.Faultless.{has_no_fault}
use Rattle.eve_chains.proofs.laws.sound_sections_have_no_fault.Goals as goal

pub returns : goal.returns
returns c = λ t e right sound. has_no_fault t e (records_fit t e right sound) (entries_see t e right sound)
