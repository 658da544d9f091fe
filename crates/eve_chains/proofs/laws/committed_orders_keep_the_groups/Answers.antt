use Rattle.eve_chains.proofs.DistinctRequests.{certificate_keeps_groups}
use Rattle.eve_chains.proofs.laws.committed_orders_keep_the_groups.Goals as goal

pub returns : goal.returns
returns c = certificate_keeps_groups
