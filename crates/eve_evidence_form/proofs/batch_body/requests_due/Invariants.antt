use Rattle.std.proofs.Common.{◌≡◌, ◌≤◌, None}
use Rattle.eve_evidence_form.specs.Fields.{fields_of, first_wrong_there}
use Rattle.eve_evidence_form.specs.BatchBody.{size_sum, size_fields}
use Rattle.eve_evidence_form.proofs.batch_body.requests_due.Given as goal

abbrev pub invariant-loop-i : goal.invariant-loop-i
invariant-loop-i l = record {
  right : None ≡ first_wrong_there (fields_of (size_fields l.body) l.i);
  sum : l.sum ≡ size_sum l.i l.body;
  few : l.sum ≤ 256;
}
