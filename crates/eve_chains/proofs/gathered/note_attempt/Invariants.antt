use Rattle.std.proofs.Common.{◌≡◌, Some, ◌++◌, flat_map, map, take, slice_get}
use Rattle.eve_history.specs.SectionHistory.{ExecutedAttempt}
use Rattle.eve_chains.specs.inner.Gathered.{as_noted}
use Rattle.eve_chains.specs.Rows.{noted_by}
use Rattle.eve_chains.proofs.gathered.note_attempt.Given as goal

abbrev pub invariant-loop-place : goal.invariant-loop-place
invariant-loop-place l = (r : ExecutedAttempt) → slice_get l.section.history.now.attempts l.i ≡ Some r
    → map as_noted l.notes.items ≡ map as_noted l.fn.notes.items
    ++ flat_map (noted_by l.noting.transferred l.noting.view l.noting.number l.noting.commits) (take l.place r.ordered)
