use Rattle.std.proofs.Common.{◌≡◌, ◌-◌, length}
use Rattle.eve_views.specs.inner.WalkProgress.{Walking}
use Rattle.eve_views.proofs.walk.index_of.Given as goal

abbrev pub invariant-frames : goal.invariant-frames
invariant-frames l =
    Walking l.fn.head l.bytes l.at l.reached.place l.offsets.items l.starts × (l.reached.head ≡ l.fn.head)

abbrev pub decreases-frames : goal.decreases-frames
decreases-frames l = length l.bytes - l.at
