use Rattle.eve_agree.proofs.AllBalances.{AreOpenings}
use Rattle.eve_agree.proofs.agreement.opening_of_each.Given as goal

abbrev pub invariant-loop-each : goal.invariant-loop-each
invariant-loop-each l = AreOpenings l.settled l.each-index l.all.items
