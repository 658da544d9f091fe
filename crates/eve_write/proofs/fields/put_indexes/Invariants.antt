-- What is appended so far.
use Rattle.std.proofs.Common.{◌≡◌, ◌+◌, ◌*◌, take}
use Rattle.std.specs.List.{flat_map}
use Rattle.arrayvec.specs.ArrayVec.{array_vec_len}
use Rattle.byteorder.specs.Endian.{big_bytes}
use Rattle.eve_write.specs.Writes.{Puts}
use Rattle.eve_write.proofs.fields.put_indexes.Given as goal

abbrev pub invariant-loop-index : goal.invariant-loop-index
invariant-loop-index g l =
    Puts l.initial.frame.items l.frame.items (flat_map (big_bytes 2) (take l.index-index l.indexes))
    × (array_vec_len l.frame ≡ array_vec_len l.initial.frame + 2 * l.index-index)
