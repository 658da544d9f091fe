use Rattle.std.proofs.Common.{◌≡◌, drop}
use Rattle.eve_evidence_form.specs.Fields.{first_wrong_there}
use Rattle.eve_evidence_form.proofs.fields.first_wrong_there.Given as goal

abbrev pub invariant-loop-i : goal.invariant-loop-i
invariant-loop-i l = first_wrong_there (drop l.i l.fields) ≡ first_wrong_there l.fields
