use Rattle.std.proofs.Common.{take}
use Rattle.std.specs.List.{AllByRecursion}
use Rattle.eve_evidence_form.specs.Header.{LiesWithin}
use Rattle.eve_evidence_form.proofs.head.wrong_number.Given as goal

abbrev pub invariant-loop-i : goal.invariant-loop-i
invariant-loop-i l = AllByRecursion LiesWithin (take l.i l.numbers)
