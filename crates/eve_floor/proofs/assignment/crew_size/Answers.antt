use Rattle.std.proofs.Common.{arith}
use Rattle.eve_floor.proofs.Sizes.{largest_more}
use Rattle.eve_floor.proofs.assignment.crew_size.Goals as goal
use Rattle.eve_floor.proofs.assignment.crew_size.Goals.{then-largest-size, else-largest-size}

pub loop-size-preserved : goal.loop-size-preserved
loop-size-preserved c =
    let before = c.loop-size.invariant in
    let more = largest_more c.args.sizes.now c.loop-size.size-index (omega arith) in
    elim c.if-largest-size.branch [ then-largest-size w ↦ omega arith | else-largest-size w ↦ omega arith ]
