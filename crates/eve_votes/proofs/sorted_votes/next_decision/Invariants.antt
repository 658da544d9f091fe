use Rattle.eve_votes.proofs.UndecidedBatches.{AreUndecided}
use Rattle.eve_votes.proofs.sorted_votes.next_decision.Given as goal

abbrev pub invariant-loop-i : goal.invariant-loop-i
invariant-loop-i l = AreUndecided l.trace l.ballots l.start l.i
