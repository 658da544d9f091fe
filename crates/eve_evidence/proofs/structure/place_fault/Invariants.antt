use Rattle.std.proofs.Common.{◌≡◌, ◌≤◌, ◌==◌, take}
use Rattle.std.specs.List.{count_by}
use Rattle.eve_history.specs.Structure.{accesses_of}
use Rattle.eve_evidence.proofs.structure.place_fault.Given as goal

abbrev pub invariant-loop-k : goal.invariant-loop-k
invariant-loop-k l =
    (l.next ≡ count_by (λ y. y.worker == l.worker) (accesses_of (take l.k l.accesses))) × (l.next ≤ l.k)
