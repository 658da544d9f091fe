use Rattle.eve_agree.proofs.RightRestores.{restored_after}
use Rattle.eve_agree.proofs.laws.rollbacks_restore_what_is_committed.Goals as goal

pub returns : goal.returns
returns c = λ t e _ right. restored_after t e right
