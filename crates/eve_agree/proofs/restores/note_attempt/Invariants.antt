use Rattle.std.proofs.Common.{◌≡◌, Some, length, take}
use Rattle.std.specs.Prelude.{slice_get}
use Rattle.eve_history.specs.SectionHistory.{ExecutedAttempt}
use Rattle.eve_chains.specs.Along.{entries_along}
use Rattle.eve_agree.specs.Marks.{marking_of, marked}
use Rattle.eve_agree.proofs.restores.note_attempt.Given as goal

abbrev pub invariant-loop-place : goal.invariant-loop-place
invariant-loop-place l = record {
  as_many : length l.marks ≡ length l.fn.marks;
  marks : (r : ExecutedAttempt) → slice_get l.history.attempts l.i ≡ Some r → marking_of l.marks
      ≡ marked (marking_of l.fn.marks) (entries_along (take l.place r.ordered));
}
