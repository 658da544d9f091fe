-- Work on a number of items, cut into parts of one length, of which the last may be shorter or empty.
-- docs/ARCHITECTURE.md, "Threads of an audit".
use Rattle.std.specs.Prelude.{ℕ, ◌*◌, min}

-- Where the part at this place begins, of parts of this size of that many items: the first at 0, and each where the one
-- before ends.
abbrev pub part_start : ℕ → ℕ → ℕ → ℕ
part_start count size place = min (place * size) count
