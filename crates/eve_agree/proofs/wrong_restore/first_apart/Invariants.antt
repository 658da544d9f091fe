use Rattle.std.proofs.Common.{◌≡◌, ◌<◌, ℕ}
use Rattle.eve_agree.specs.Marks.{marking_of}
use Rattle.eve_agree.proofs.wrong_restore.first_apart.Given as goal

abbrev pub invariant-loop-i : goal.invariant-loop-i
invariant-loop-i l = (row : ℕ) → row < l.i → marking_of l.found row ≡ marking_of l.due row
