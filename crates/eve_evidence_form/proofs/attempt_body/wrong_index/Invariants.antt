use Rattle.std.proofs.Common.{◌≡◌, ◌+◌, ◌*◌, None}
use Rattle.eve_evidence_form.specs.Fields.{fields_of, first_wrong_there}
use Rattle.eve_evidence_form.specs.AttemptBody.{index_fields}
use Rattle.eve_evidence_form.proofs.attempt_body.wrong_index.Given as goal

abbrev pub invariant-loop-i : goal.invariant-loop-i
invariant-loop-i l = None ≡ first_wrong_there (fields_of (λ i. index_fields (11 + 2 * i) l.body) l.i)
