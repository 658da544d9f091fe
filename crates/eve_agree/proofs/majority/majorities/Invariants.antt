use Rattle.eve_agree.proofs.MajorityFaults.{IsFirstUnbackedBelow}
use Rattle.eve_agree.proofs.majority.majorities.Given as goal

abbrev pub invariant-loop-history : goal.invariant-loop-history
invariant-loop-history l = IsFirstUnbackedBelow l.trace l.history-index l.first
