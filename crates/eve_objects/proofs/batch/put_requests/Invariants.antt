-- The tokens that came and those that are still to come are together all of them.
use Rattle.std.proofs.Common.{◌≡◌, ◌++◌}
use Rattle.std.specs.List.{flat_map}
use Rattle.eve_frames.specs.Views.{batch_in}
use Rattle.eve_objects.specs.FrameObjects.{asked_item}
use Rattle.eve_objects.proofs.batch.put_requests.Given as goal

abbrev pub invariant-loop-asked : goal.invariant-loop-asked
invariant-loop-asked l =
    (l.writer.tokens ++ flat_map asked_item l.asked-iterator
    ≡ l.initial.writer.tokens ++ flat_map asked_item ((batch_in l.batch.bytes.now).1.requests))
    × (l.writer.before ≡ l.initial.writer.before)
