use Rattle.eve_workload.proofs.OneWorkload.{one_workload}
use Rattle.eve_workload.proofs.laws.workloads_are_unique.Goals as goal

pub returns : goal.returns
returns c = one_workload
