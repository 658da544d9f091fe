use Rattle.eve_floor.specs.SharedBatches.{IsMemberOf}
use Rattle.eve_floor.proofs.work.run_member.Given as goal

abbrev pub invariant-loop-number : goal.invariant-loop-number
invariant-loop-number g l = IsMemberOf l.crew l.member
