use Rattle.std.proofs.Common.{take}
use Rattle.std.specs.List.{AllByRecursion}
use Rattle.eve_evidence.specs.Sought.{MeetsIn}
use Rattle.eve_evidence.proofs.sought.may_have_found.Given as goal

abbrev pub invariant-loop-i : goal.invariant-loop-i
invariant-loop-i l = AllByRecursion (λ x. ¬ MeetsIn l.sought x.1.entries) (take l.i l.accesses)
