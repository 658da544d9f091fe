use Rattle.std.proofs.Common.{◌≡◌, ◌-◌, []}
use Rattle.eve_chains.specs.Rows.{told_of, all_noted}
use Rattle.eve_chains.specs.Changes.{changes_of_rows}
use Rattle.eve_chains.specs.inner.Walked.{IsFirstOnRows}
use Rattle.eve_chains.proofs.rows.walk_rows.Given as goal

abbrev pub invariant-loop-number : goal.invariant-loop-number
invariant-loop-number l = record {
  first : IsFirstOnRows l.rows.section.trace.now l.rows.section.history.now.replica l.from l.number l.first;
  changes : l.changes.items
      ≡ changes_of_rows (all_noted (told_of l.rows.section.trace.now l.rows.section.history.now.replica)) l.from
      (l.number - l.from) [];
}
