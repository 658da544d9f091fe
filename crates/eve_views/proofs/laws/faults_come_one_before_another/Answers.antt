use Rattle.eve_views.proofs.FaultOrder.{precedes-trans, one_of_two}
use Rattle.eve_views.proofs.laws.faults_come_one_before_another.Goals as goal

pub returns : goal.returns
returns c = record { further = precedes-trans; first = one_of_two }
