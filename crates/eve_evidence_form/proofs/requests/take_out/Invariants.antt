use Rattle.std.specs.Prelude.{◌↔◌, IsTrue}
use Rattle.eve_grammar.specs.Trace.{RequestId}
use Rattle.eve_frames.specs.Decoded.{batch_decoded}
use Rattle.eve_evidence_form.specs.Requests.{is_in_set}
use Rattle.eve_evidence_form.proofs.UnaskedIds.{NoneOf}
use Rattle.eve_evidence_form.proofs.requests.take_out.Given as goal

abbrev pub invariant-loop-asked : goal.invariant-loop-asked
invariant-loop-asked l =
    (id : RequestId) → (IsTrue (is_in_set l.fn.ids id) × NoneOf id (batch_decoded l.batch).1.requests)
    ↔ (IsTrue (is_in_set l.ids id) × NoneOf id l.asked-iterator)
