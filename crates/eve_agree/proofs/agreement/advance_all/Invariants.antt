use Rattle.eve_agree.proofs.AllBalances.{Reached}
use Rattle.eve_agree.proofs.agreement.advance_all.Given as goal

abbrev pub invariant-loop-e : goal.invariant-loop-e
invariant-loop-e l = Reached l.settled l.n l.e l.all.items
