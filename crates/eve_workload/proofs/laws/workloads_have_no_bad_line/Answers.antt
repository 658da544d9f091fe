use Rattle.eve_workload.proofs.WholeLines.{no_bad_line}
use Rattle.eve_workload.proofs.laws.workloads_have_no_bad_line.Goals as goal

pub returns : goal.returns
returns c = no_bad_line
