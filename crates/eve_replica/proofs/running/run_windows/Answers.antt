use Rattle.std.proofs.Common.{length, refl, ap, ◌∙◌, subst, arith}
use Rattle.eve_grammar.specs.declared.head.Head.{Head}
use Rattle.eve_replica.specs.RunFaults.{EndsSoFar, StopsAmid}
use Rattle.eve_replica.specs.Sections.{RunPlan}
use Rattle.eve_replica.specs.inner.RunInvariant.{IsUnderWay}
use Rattle.eve_replica.specs.declared.standing.Standing.{Standing}
use Rattle.eve_replica.proofs.RunProgress.{amid}
use Rattle.eve_replica.proofs.Endings.{at_err}
use Rattle.eve_replica.proofs.running.run_windows.Goals as goal

pub loop-turn-init : goal.loop-turn-init
loop-turn-init g c = record {
  under_way = λ p under. under;
  same = (refl, refl);
  none_open = ap (λ (x : Standing). x.opened) c.requires.first;
  view = let view = ap (λ (x : Standing). x.view) c.requires.first in omega (arith, view);
  further = omega arith;
}

pub loop-turn-preserved : goal.loop-turn-preserved
loop-turn-preserved g c =
    let was = c.loop-turn.invariant in
    let same = c.in_ok-run_window.ensures.same in
    record {
      under_way = λ p under. c.in_ok-run_window.ensures.under_way p (was.under_way p under);
      same = (same.0 ∙ was.same.0, same.1 ∙ was.same.1);
      none_open = c.in_ok-run_window.ensures.none_open;
      view = omega (arith, was.view, c.in_ok-run_window.ensures.view);
      further = omega (arith, was.further, c.in_ok-run_window.ensures.further);
    }

pub returns-clause-done : goal.returns-clause-done
returns-clause-done g c =
    let was = c.loop-turn.invariant in
    let same = ap (λ b. length b.now) was.same.1 in
    let under = was.under_way c.requires.under_way.0 c.requires.under_way.1 in
    omega (arith, same, under.due, c.if-state-batches-2.false)

pub returns-in_err-run_window-clause-why : goal.returns-in_err-run_window-clause-why
returns-in_err-run_window-clause-why g c =
    let d = c.args.state.now in
    let why = c.in_err-run_window.field-0.0 in
    at_err c.from_residual.result _ why c.from_residual.ensures.1
    (λ (p : RunPlan) (was : IsUnderWay p d).
    let made = c.in_err-run_window.ensures.why p (c.loop-turn.invariant.under_way p was) in
    subst (λ (h : Head). EndsSoFar p h.replicas why) c.loop-turn.invariant.same.0 made)

pub returns-then-state-batches-2-clause-why : goal.returns-then-state-batches-2-clause-why
returns-then-state-batches-2-clause-why g c = λ p was.
    let invariant = c.loop-turn.invariant in
    let left = ap (λ b. length b.now) invariant.same.1 in
    subst (λ (h : Head). StopsAmid p h.replicas) invariant.same.0
    (amid p c.loop-turn.state (invariant.under_way p was) (omega (arith, left)))
