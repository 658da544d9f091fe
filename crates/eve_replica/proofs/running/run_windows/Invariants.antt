use Rattle.std.proofs.Common.{◌≡◌, ◌≤◌, ◌+◌}
use Rattle.eve_replica.specs.Sections.{RunPlan}
use Rattle.eve_replica.specs.inner.RunInvariant.{IsSameRun, IsUnderWay}
use Rattle.eve_replica.proofs.running.run_windows.Given as goal

abbrev pub invariant-loop-turn : goal.invariant-loop-turn
invariant-loop-turn g l = record {
  under_way : (p : RunPlan) → IsUnderWay p l.fn.state → IsUnderWay p l.state;
  same : IsSameRun l.fn.state l.state;
  none_open : l.state.standing.opened ≡ 0;
  view : l.state.standing.view ≤ l.turn;
  further : l.turn ≤ l.state.standing.committed + l.state.standing.view;
}
