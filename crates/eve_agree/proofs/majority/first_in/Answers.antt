use Rattle.std.proofs.Common.{◌≡◌, [], sym, subst, rules}
use Rattle.eve_grammar.specs.Trace.{Trace}
use Rattle.eve_agree.specs.Majority.{IsBacked}
use Rattle.eve_agree.specs.inner.Unbacked.{IsUnbacked}
use Rattle.eve_agree.proofs.MajorityFaults.{AreLeft, left_first, left_next, left_fault}
use Rattle.eve_agree.proofs.majority.first_in.Goals as goal

pub loop-step-init : goal.loop-step-init
loop-step-init c =
    let t = c.args.trace.now in
    subst (AreLeft t c.args.e) (sym c.section-steps.ensures)
    (left_first t c.args.e c.recall_limits.ensures c.requires.right)

pub unbacked-requires : goal.unbacked-requires
unbacked-requires c =
    let some = c.in-Some.ensures.some in
    let left = subst (AreLeft c.args.trace.now c.args.e) some.1 c.loop-step.invariant in
    (some.0, some.2, left.room.0)

pub returns-in-Some-unbacked-clause-first : goal.returns-in-Some-unbacked-clause-first
returns-in-Some-unbacked-clause-first c =
    let t = c.args.trace.now in
    let e = c.args.e in
    let some = c.in-Some.ensures.some in
    let f = c.in-Some-unbacked.fault in
    left_fault t e some.0 c.next.new.self f (subst (AreLeft t e) some.1 c.loop-step.invariant)
    (subst (λ (u : Trace). IsUnbacked u e some.0 f) c.requires.tally
    (c.in-Some-unbacked.ensures.unbacked some.0 some.2))

pub loop-step-smaller : goal.loop-step-smaller
loop-step-smaller c = search rules

pub loop-step-preserved : goal.loop-step-preserved
loop-step-preserved c =
    let t = c.args.trace.now in
    let some = c.in-Some.ensures.some in
    left_next t c.args.e some.0 c.next.new.self (subst (AreLeft t c.args.e) some.1 c.loop-step.invariant)
    (subst (λ (u : Trace). IsBacked u some.0.1) c.requires.tally (c.in_default-unbacked.ensures.backed some.0 some.2))

pub returns-clause-backed : goal.returns-clause-backed
returns-clause-backed c =
    let none : c.loop-step.steps ≡ [] = search rules in
    let left = subst (AreLeft c.args.trace.now c.args.e) none c.loop-step.invariant in
    left.backed tt
