use Rattle.eve_history.specs.Order.{requests_decoded}
use Rattle.eve_agree.proofs.BatchRequests.{IsReading}
use Rattle.eve_agree.proofs.batch_request_ids.read.Given as goal

abbrev pub invariant-loop-asked : goal.invariant-loop-asked
invariant-loop-asked l = IsReading (requests_decoded l.batch.bytes.now) l.asked-iterator l.items l.count
