use Rattle.std.proofs.Common.{length}
use Rattle.eve_evidence.proofs.StepSplits.{Walks}
use Rattle.eve_evidence.proofs.prefix.prefix_of.Given as goal

abbrev pub invariant-loop-step : goal.invariant-loop-step
invariant-loop-step l = Walks l.trace l.e l.at l.row l.left l.steps l.prefix

abbrev pub decreases-loop-step : goal.decreases-loop-step
decreases-loop-step l = length l.steps
