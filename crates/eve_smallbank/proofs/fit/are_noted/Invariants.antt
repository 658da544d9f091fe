use Rattle.eve_smallbank.proofs.DecisionEntries.{AreNotedBelow}
use Rattle.eve_smallbank.proofs.fit.are_noted.Given as goal

abbrev pub invariant-loop-place : goal.invariant-loop-place
invariant-loop-place l = AreNotedBelow l.rows l.entries l.effects l.place
