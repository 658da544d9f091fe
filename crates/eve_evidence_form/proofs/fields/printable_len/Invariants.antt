use Rattle.std.proofs.Common.{◌≡◌, ◌+◌, drop}
use Rattle.eve_evidence_form.specs.Fields.{printable_len}
use Rattle.eve_evidence_form.proofs.fields.printable_len.Given as goal

abbrev pub invariant-loop-i : goal.invariant-loop-i
invariant-loop-i l = l.i + printable_len (drop l.i l.bytes) ≡ printable_len l.bytes
