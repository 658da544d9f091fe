use Rattle.std.proofs.Common.{◌≡◌, ◌+◌, ◌*◌, None}
use Rattle.eve_evidence_form.specs.Fields.{fields_of, first_wrong_there}
use Rattle.eve_evidence_form.specs.RowsBody.{state_row_fields}
use Rattle.eve_evidence_form.proofs.rows_body.wrong_in_state_rows.Given as goal

abbrev pub invariant-loop-i : goal.invariant-loop-i
invariant-loop-i l = None ≡ first_wrong_there (fields_of (λ i. state_row_fields i (8 + 16 * i) l.body) l.i)
