use Rattle.eve_history.proofs.MarkedRecords.{Marking}
use Rattle.eve_history.proofs.access_marks.AccessMarks.mark_all.Given as goal

abbrev pub invariant-loop-i : goal.invariant-loop-i
invariant-loop-i l = Marking l.workers l.count l.accesses l.i l.self
