use Rattle.eve_workload.proofs.OneAnswer.{one_bad_line}
use Rattle.eve_workload.proofs.laws.bad_lines_are_unique.Goals as goal

pub returns : goal.returns
returns c = one_bad_line
