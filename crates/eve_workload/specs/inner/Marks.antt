-- What the marks of rows say.
use Rattle.std.specs.Prelude.{◌≡◌, ℕ, ◌==◌, Bool, false, ◌&&◌, Option, Some, None, slice_get, slice_index_or}
use Rattle.eve_smallbank.specs.declared.entry.Kind.{Kind}
use Rattle.eve_smallbank.specs.declared.entry.Kind.TheVariants.{Read, Write}
use Rattle.eve_workload.specs.declared.group_set.GroupSet.{GroupSet}
use Rattle.eve_workload.specs.declared.marks.Marks.{Marks}
use Rattle.eve_workload.specs.declared.marks.RowMarks.{RowMarks}
use Rattle.eve_workload.specs.inner.GroupSets.{has}

-- the groups in which an entry of this kind is in conflict, by the marks of its row
abbrev pub groups_barred : Marks → Kind → GroupSet
groups_barred marks Read = marks.written
groups_barred marks Write = marks.touched

-- the marks are the row's, by which, read or written, it is in conflict in the group
abbrev pub bars : Option Marks → ℕ × Kind → ℕ → Bool
bars None row group = false
bars (Some marks) row group = (marks.row == row.0) && has (groups_barred marks row.1) group

-- the place at which the row's marks stand, if it has any
abbrev pub place_of : RowMarks → ℕ → ℕ
place_of marks row = slice_index_or marks.places.items row 0

-- the row, read or written, is in conflict in the group
abbrev pub is_barred : RowMarks → ℕ × Kind → ℕ → Bool
is_barred marks row group = bars (slice_get marks.marks.items (place_of marks row.0)) row group

-- the row's marks stand at this place
pub record HasMarksAt (marks : RowMarks) (row place : ℕ) : Type 0 where
  pub found : place_of marks row ≡ place
  pub own : (it : Marks) × (slice_get marks.marks.items place ≡ Some it) × (it.row ≡ row)
