use Rattle.std.proofs.Common.{length}
use Rattle.eve_agree.proofs.WrongRestores.{Seeks}
use Rattle.eve_agree.proofs.wrong_restore.first_wrong_restore.Given as goal

abbrev pub invariant-loop-step : goal.invariant-loop-step
invariant-loop-step l = Seeks l.trace l.history.replica l.at l.steps l.first l.end

abbrev pub decreases-loop-step : goal.decreases-loop-step
decreases-loop-step l = length l.steps
