use Rattle.std.proofs.Common.{length}
use Rattle.eve_agree.proofs.MajorityFaults.{AreLeft}
use Rattle.eve_agree.proofs.majority.first_in.Given as goal

abbrev pub invariant-loop-step : goal.invariant-loop-step
invariant-loop-step l = AreLeft l.trace l.e l.steps

abbrev pub decreases-loop-step : goal.decreases-loop-step
decreases-loop-step l = length l.steps
