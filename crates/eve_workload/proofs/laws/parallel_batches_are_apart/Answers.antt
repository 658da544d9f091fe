use Rattle.eve_workload.proofs.Mixed.{cut_apart}
use Rattle.eve_workload.proofs.laws.parallel_batches_are_apart.Goals as goal

pub returns : goal.returns
returns c = cut_apart
