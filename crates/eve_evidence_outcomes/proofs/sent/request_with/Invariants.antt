use Rattle.eve_frames.specs.Decoded.{batch_decoded}
use Rattle.eve_evidence_outcomes.proofs.BatchRequests.{IsLooking}
use Rattle.eve_evidence_outcomes.proofs.sent.request_with.Given as goal

abbrev pub invariant-loop-asked : goal.invariant-loop-asked
invariant-loop-asked l = IsLooking (l.client, l.number) (batch_decoded l.batch).1.requests l.asked-iterator l.index
