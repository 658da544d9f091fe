use Rattle.std.proofs.Common.{◌≡◌, ◌+◌, ◌*◌, ◌≤◌, length, None}
use Rattle.eve_evidence_form.specs.Fields.{fields_of, first_wrong_there}
use Rattle.eve_evidence_form.specs.RowsBody.{restore_fields}
use Rattle.eve_evidence_form.proofs.rows_body.wrong_in_restores.Given as goal

abbrev pub invariant-loop-i : goal.invariant-loop-i
invariant-loop-i l = record {
  right : None ≡ first_wrong_there (fields_of (λ i. restore_fields l.rows i (12 + 20 * i) l.body) l.i);
  stands : 12 + 20 * l.i ≤ length l.body;
}
