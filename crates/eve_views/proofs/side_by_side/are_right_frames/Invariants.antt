use Rattle.std.proofs.Common.{take}
use Rattle.eve_views.specs.inner.SideBySide.{AreRightFrames}
use Rattle.eve_views.proofs.side_by_side.are_right_frames.Given as goal

abbrev pub invariant-loop-offset : goal.invariant-loop-offset
invariant-loop-offset l = AreRightFrames l.rows l.bytes (take l.offset-index l.offsets)
