use Rattle.std.proofs.Common.{◌≡◌, ◌*◌, length}
use Rattle.eve_agree.specs.Marks.{marking_of, unmarked}
use Rattle.eve_agree.proofs.RestoresInOrder.{HasJudged}
use Rattle.eve_agree.proofs.restores.judge.Given as goal

abbrev pub invariant-loop-step : goal.invariant-loop-step
invariant-loop-step l = record {
  judged : HasJudged l.trace l.history.replica l.steps l.first l.end;
  many : length l.marks ≡ 2 * length l.trace.customers;
  none : marking_of l.marks ≡ unmarked;
}

abbrev pub decreases-loop-step : goal.decreases-loop-step
decreases-loop-step l = length l.steps
