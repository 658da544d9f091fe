use Rattle.std.proofs.Common.{length}
use Rattle.eve_test_traces.proofs.walk.Walk.along.Given as goal

abbrev pub decreases-loop-step : goal.decreases-loop-step
decreases-loop-step l = length l.steps
