use Rattle.std.proofs.Common.{◌≡◌, max, take}
use Rattle.eve_floor.specs.Assignments.{largest}
use Rattle.eve_floor.proofs.assignment.crew_size.Given as goal

abbrev pub invariant-loop-size : goal.invariant-loop-size
invariant-loop-size l = l.largest ≡ max 1 (largest (take l.size-index l.sizes))
