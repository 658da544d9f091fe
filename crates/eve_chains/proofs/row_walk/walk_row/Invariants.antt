use Rattle.std.proofs.Common.{◌≡◌, take}
use Rattle.eve_chains.specs.inner.Bases.{base_at}
use Rattle.eve_chains.specs.Changes.{changes_along}
use Rattle.eve_chains.specs.inner.Gathered.{own_along}
use Rattle.eve_chains.specs.inner.Walked.{HasChecked}
use Rattle.eve_chains.proofs.row_walk.walk_row.Given as goal

abbrev pub invariant-loop-part : goal.invariant-loop-part
invariant-loop-part l = record {
  checked : HasChecked l.replica (base_at l.bases l.row) (own_along l.row (take l.part-index l.parts))
      l.walk;
  changes : l.changes.items
      ≡ changes_along l.fn.changes.items (own_along l.row (take l.part-index l.parts));
}
