use Rattle.std.proofs.Common.{◌≡◌, ◌+◌, ◌*◌, ◌≤◌, None}
use Rattle.eve_evidence_form.specs.Fields.{fields_of, first_wrong_there}
use Rattle.eve_evidence_form.specs.BatchBody.{request_fields, request_place}
use Rattle.eve_evidence_form.proofs.batch_body.requests_end.Given as goal

abbrev pub invariant-loop-i : goal.invariant-loop-i
invariant-loop-i l = record {
  right : None ≡ first_wrong_there (fields_of (λ i. request_fields (request_place l.from l.body i) l.body) l._i);
  place : l.at ≡ request_place l.from l.body l._i;
  near : l.at ≤ l.from + 525 * l._i;
}
