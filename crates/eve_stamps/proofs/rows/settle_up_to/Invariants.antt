use Rattle.std.proofs.Common.{length}
use Rattle.eve_stamps.proofs.WrittenRows.{Settling}
use Rattle.eve_stamps.proofs.rows.settle_up_to.Given as goal

abbrev pub invariant-loop-journaled : goal.invariant-loop-journaled
invariant-loop-journaled l = Settling l.initial.rows l.initial.journal.items l.tick l.rows l.journal.items

abbrev pub decreases-loop-journaled : goal.decreases-loop-journaled
decreases-loop-journaled l = length l.journal.items
