use Rattle.eve_audit.proofs.OwnFaults.{own_faults_alone}
use Rattle.eve_audit.proofs.laws.replicas_are_judged_by_themselves.Goals as goal

pub returns : goal.returns
returns c = own_faults_alone
