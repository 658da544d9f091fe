-- The tokens of the sizes before one came.
use Rattle.std.proofs.Common.{◌≡◌, ◌++◌, drop}
use Rattle.std.specs.List.{flat_map}
use Rattle.eve_frames.specs.Views.{batch_in}
use Rattle.eve_objects.specs.FrameObjects.{index_item}
use Rattle.eve_objects.proofs.batch.put_sizes.Given as goal

abbrev pub invariant-loop-i : goal.invariant-loop-i
invariant-loop-i l =
    (l.writer.tokens ++ flat_map index_item (drop l.i (batch_in l.batch.bytes.now).1.sizes)
    ≡ l.initial.writer.tokens ++ flat_map index_item (batch_in l.batch.bytes.now).1.sizes)
    × (l.writer.before ≡ l.initial.writer.before)
