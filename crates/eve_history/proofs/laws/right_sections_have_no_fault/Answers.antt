use Rattle.eve_history.proofs.Faultless.{right_without_faults, no_fault_where_right}
use Rattle.eve_history.proofs.laws.right_sections_have_no_fault.Goals as goal

pub returns : goal.returns
returns c = record { right = right_without_faults; none = no_fault_where_right }
