use Rattle.std.proofs.Common.{◌≡◌, take, drop}
use Rattle.std.specs.List.{flat_map}
use Rattle.eve_grammar.specs.Spelling.{batches_at}
use Rattle.eve_frames.specs.Decoded.{batch_decoded}
use Rattle.eve_evidence_form.specs.Requests.{requests_listed, NoneAgain}
use Rattle.eve_evidence_form.proofs.requests.again_in.Given as goal

abbrev pub invariant-loop-asked : goal.invariant-loop-asked
invariant-loop-asked l =
    (drop l.index (batch_decoded l.batch).1.requests ≡ l.asked-iterator)
    × NoneAgain (flat_map requests_listed (take l.n (batches_at l.trace))) (take l.index (requests_listed
    (l.batch.offset, batch_decoded l.batch)))
