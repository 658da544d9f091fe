use Rattle.eve_history.proofs.SortedRequests.{Seen}
use Rattle.eve_history.proofs.repeats.first_twice.Given as goal

abbrev pub invariant-loop-i : goal.invariant-loop-i
invariant-loop-i l = Seen l.arrivals l.i l.first
