use Rattle.std.proofs.Common.{◌≡◌, drop}
use Rattle.eve_floor.specs.Crews.{fault_of_lowest}
use Rattle.eve_floor.proofs.workers.lowest_fault.Given as goal

abbrev pub invariant-loop-member : goal.invariant-loop-member
invariant-loop-member l = fault_of_lowest l.members ≡ fault_of_lowest (drop l.member-index l.members)
