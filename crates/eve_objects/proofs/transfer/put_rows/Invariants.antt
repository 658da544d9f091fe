-- The tokens of the rows before one came.
use Rattle.std.proofs.Common.{◌≡◌, ◌++◌, drop}
use Rattle.std.specs.List.{enumerate_from, flat_map}
use Rattle.eve_frames.specs.Views.{transfer_in}
use Rattle.eve_objects.specs.FrameObjects.{row_item}
use Rattle.eve_objects.proofs.transfer.put_rows.Given as goal

abbrev pub invariant-loop-i : goal.invariant-loop-i
invariant-loop-i l =
    (l.writer.tokens ++ flat_map row_item (enumerate_from l.i (drop l.i (transfer_in l.transfer.bytes.now).rows))
    ≡ l.initial.writer.tokens ++ flat_map row_item (enumerate_from 0 (transfer_in l.transfer.bytes.now).rows))
    × (l.writer.before ≡ l.initial.writer.before)
