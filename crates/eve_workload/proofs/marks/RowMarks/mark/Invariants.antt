use Rattle.std.proofs.Common.{◌≡◌, ℕ, ◌+◌, ◌≤◌, length, take}
use Rattle.std.specs.Prelude.{◌==◌, ◌&&◌, ◌||◌}
use Rattle.std.specs.List.{list_any}
use Rattle.eve_smallbank.specs.declared.entry.Kind.{Kind}
use Rattle.eve_workload.specs.Mixers.{collide}
use Rattle.eve_workload.specs.inner.Marks.{is_barred}
use Rattle.eve_workload.proofs.marks.RowMarks.mark.Given as goal

abbrev pub invariant-loop-index : goal.invariant-loop-index
invariant-loop-index l =
    (length l.self.marks.items ≤ length l.initial.self.marks.items + l.index)
    × ((row : ℕ × Kind) → (other : ℕ) → is_barred l.self row other ≡ (is_barred l.initial.self row other
    || (list_any (collide row) (take l.index l.rows) && (other == l.group))))
