use Rattle.std.proofs.Common.{[]}
use Rattle.eve_workload.proofs.request_ids.RequestIds.list.Goals as goal

pub returns-in_ok-add_batches-clause-listed : goal.returns-in_ok-add_batches-clause-listed
returns-in_ok-add_batches-clause-listed c = λ seen. c.in_ok-add_batches.ensures [] (seen.unlisted c.if-self.true)
