-- The tokens that came and those that are still to come are together all of them.
use Rattle.std.proofs.Common.{◌≡◌, ◌++◌}
use Rattle.std.specs.List.{flat_map}
use Rattle.eve_frames.specs.Views.{access_in}
use Rattle.eve_objects.specs.FrameObjects.{entry_item}
use Rattle.eve_objects.proofs.access.put_entries.Given as goal

abbrev pub invariant-loop-entry : goal.invariant-loop-entry
invariant-loop-entry l =
    (l.writer.tokens ++ flat_map entry_item l.entry-iterator
    ≡ l.initial.writer.tokens ++ flat_map entry_item ((access_in l.access.bytes.now).entries))
    × (l.writer.before ≡ l.initial.writer.before)
