use Rattle.std.proofs.Common.{◌≡◌, ◌+◌, ◌*◌, None}
use Rattle.eve_evidence_form.specs.Fields.{fields_of, first_wrong_there}
use Rattle.eve_evidence_form.specs.AccessBody.{entry_fields}
use Rattle.eve_evidence_form.proofs.access_body.wrong_in_entries.Given as goal

abbrev pub invariant-loop-i : goal.invariant-loop-i
invariant-loop-i l = None ≡ first_wrong_there (fields_of (λ i. entry_fields l.rows (6 + 29 * i) l.body) l.i)
