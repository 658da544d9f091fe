use Rattle.std.proofs.Common.{◌≡◌, take, drop}
use Rattle.eve_frames.specs.Decoded.{batch_decoded}
use Rattle.eve_evidence_form.specs.Requests.{requests_listed, NoneAsked}
use Rattle.eve_evidence_form.proofs.requests.first_in.Given as goal

abbrev pub invariant-loop-asked : goal.invariant-loop-asked
invariant-loop-asked l =
    (drop l.index (batch_decoded l.batch).1.requests ≡ l.asked-iterator)
    × NoneAsked (l.client, l.number) (take l.index (requests_listed (l.batch.offset, batch_decoded l.batch)))
