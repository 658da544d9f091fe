use Rattle.eve_chains.proofs.Faultless.{has_no_fault, entries_see_without_fault, mismatch_nowhere}
use Rattle.eve_chains.proofs.laws.faults_tell_what_is_wrong.Goals as goal

pub returns : goal.returns
returns c = record { none = has_no_fault; see = entries_see_without_fault; fit = mismatch_nowhere }
