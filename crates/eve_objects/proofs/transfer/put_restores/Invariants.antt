-- The tokens that came and those that are still to come are together all of them.
use Rattle.std.proofs.Common.{◌≡◌, ◌++◌}
use Rattle.std.specs.List.{flat_map}
use Rattle.eve_frames.specs.Views.{rollback_in}
use Rattle.eve_objects.specs.FrameObjects.{restore_item}
use Rattle.eve_objects.proofs.transfer.put_restores.Given as goal

abbrev pub invariant-loop-restore : goal.invariant-loop-restore
invariant-loop-restore l =
    (l.writer.tokens ++ flat_map restore_item l.restore-iterator
    ≡ l.initial.writer.tokens ++ flat_map restore_item ((rollback_in l.rollback.bytes.now).restores))
    × (l.writer.before ≡ l.initial.writer.before)
