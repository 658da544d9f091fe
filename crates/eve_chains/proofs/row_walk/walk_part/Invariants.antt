use Rattle.std.proofs.Common.{◌≡◌, ◌++◌, List, map, take}
use Rattle.eve_chains.specs.inner.Bases.{base_at}
use Rattle.eve_chains.specs.Changes.{changes_along}
use Rattle.eve_chains.specs.inner.Gathered.{as_noted}
use Rattle.eve_chains.specs.Rows.{Noted}
use Rattle.eve_chains.specs.inner.Walked.{HasChecked}
use Rattle.eve_chains.proofs.row_walk.walk_part.Given as goal

abbrev pub invariant-loop-note : goal.invariant-loop-note
invariant-loop-note l = record {
  checked : (ns : List Noted) → HasChecked l.replica (base_at l.bases l.row) ns l.fn.walk
      → HasChecked l.replica (base_at l.bases l.row) (ns ++ map as_noted (take l.note-index l.notes)) l.walk;
  changes : l.changes.items ≡ changes_along l.fn.changes.items (map as_noted (take l.note-index l.notes));
}
