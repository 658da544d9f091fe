use Rattle.std.proofs.Common.{take}
use Rattle.std.specs.Prelude.{IsFalse}
use Rattle.std.specs.List.{AllByRecursion, list_any}
use Rattle.eve_smallbank.specs.Access.{writes_row}
use Rattle.eve_evidence.proofs.sources.may_write.Given as goal

abbrev pub invariant-loop-i : goal.invariant-loop-i
invariant-loop-i l = AllByRecursion (λ x. IsFalse (list_any (writes_row l.row) x.1.entries)) (take l.i l.accesses)
