use Rattle.eve_history.proofs.Positions.{order_fault_within, structure_fault_within}
use Rattle.eve_history.proofs.laws.faults_lie_within.Goals as goal

pub returns : goal.returns
returns c = record { orders = order_fault_within; structure = structure_fault_within }
