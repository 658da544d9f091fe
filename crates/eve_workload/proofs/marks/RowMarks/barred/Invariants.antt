use Rattle.std.proofs.Common.{◌≡◌, ℕ, take}
use Rattle.std.specs.List.{list_any}
use Rattle.eve_workload.specs.inner.GroupSets.{has}
use Rattle.eve_workload.specs.inner.Marks.{is_barred}
use Rattle.eve_workload.proofs.marks.RowMarks.barred.Given as goal

abbrev pub invariant-loop-index : goal.invariant-loop-index
invariant-loop-index l =
    (group : ℕ) → has l.all group ≡ list_any (λ row. is_barred l.self row group) (take l.index l.rows)
