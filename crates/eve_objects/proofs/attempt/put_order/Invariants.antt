-- The tokens that came and those that are still to come are together all of them.
use Rattle.std.proofs.Common.{◌≡◌, ◌++◌}
use Rattle.std.specs.List.{flat_map}
use Rattle.eve_frames.specs.Views.{attempt_in}
use Rattle.eve_objects.specs.FrameObjects.{index_item}
use Rattle.eve_objects.proofs.attempt.put_order.Given as goal

abbrev pub invariant-loop-index : goal.invariant-loop-index
invariant-loop-index l =
    (l.writer.tokens ++ flat_map index_item l.index-iterator
    ≡ l.initial.writer.tokens ++ flat_map index_item ((attempt_in l.attempt.bytes.now).certificate))
    × (l.writer.before ≡ l.initial.writer.before)
