use Rattle.std.proofs.Common.{◌≡◌, length}
use Rattle.eve_agree.specs.Marks.{marking_of, marked, noted_between}
use Rattle.eve_agree.proofs.restores.note_attempts.Given as goal

abbrev pub invariant-loop-i : goal.invariant-loop-i
invariant-loop-i l = record {
  as_many : length l.marks ≡ length l.fn.marks;
  marks : marking_of l.marks ≡ marked (marking_of l.fn.marks)
      (noted_between l.discarded.history.now.attempts l.discarded.first l.i);
}
