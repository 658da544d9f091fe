use Rattle.std.proofs.Common.{◌≡◌, ◌≤◌, ◌<◌, ◌+◌}
use Rattle.eve_replica.specs.Sections.{RunPlan}
use Rattle.eve_replica.specs.inner.RunInvariant.{IsSameRun, IsUnderWay}
use Rattle.eve_replica.proofs.run_state.RunState.run_window.Given as goal

abbrev pub invariant-loop-self : goal.invariant-loop-self
invariant-loop-self g l = record {
  under_way : (p : RunPlan) → IsUnderWay p l.fn.self → IsUnderWay p l.self;
  same : IsSameRun l.fn.self l.self;
  view : l.self.standing.view ≤ l.fn.self.standing.view + 1;
  never_back : l.fn.self.standing.committed + l.fn.self.standing.view
      ≤ l.self.standing.committed + l.self.standing.view;
  further : l.self.standing.opened ≡ 0 → l.fn.self.standing.committed + l.fn.self.standing.view
      < l.self.standing.committed + l.self.standing.view;
  same_view : 0 < l.self.standing.opened → l.self.standing.view ≡ l.fn.self.standing.view;
}

abbrev pub decreases-loop-self : goal.decreases-loop-self
decreases-loop-self g l = l.self.standing.opened
