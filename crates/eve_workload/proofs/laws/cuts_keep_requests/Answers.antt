use Rattle.eve_workload.proofs.Mixed.{cut_keeps}
use Rattle.eve_workload.proofs.laws.cuts_keep_requests.Goals as goal

pub returns : goal.returns
returns c = cut_keeps
