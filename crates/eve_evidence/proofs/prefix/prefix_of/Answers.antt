use Rattle.std.proofs.Common.{ℕ, List, sym, subst, ◌∙◌}
use Rattle.eve_grammar.specs.Trace.{Step}
use Rattle.eve_evidence.proofs.StepSplits.{Walks, walks_first, room_for, prefix_met, behind_found, not_ended, walks_on}
use Rattle.eve_evidence.proofs.prefix.prefix_of.Goals as goal

pub loop-step-init : goal.loop-step-init
loop-step-init c =
    let t = c.args.trace.now in
    subst (λ (xs : List (ℕ × Step)). Walks t c.args.e c.args.at c.args.row c.args.left.now xs
    c.at_opening-prefix.result)
    (sym c.requires.steps)
    (walks_first t c.args.e c.args.at c.args.row c.args.left.now c.at_opening-prefix.result c.at_opening-prefix.ensures)

pub returns-then-offset-at-clause-prefix : goal.returns-then-offset-at-clause-prefix
returns-then-offset-at-clause-prefix c = λ prefix s behind is.
    let t = c.args.trace.now in
    let some = c.in-Some.ensures.some in
    let w = subst (λ (xs : List (ℕ × Step)). Walks t c.args.e c.args.at c.args.row c.args.left.now xs
    c.loop-step.prefix) some.1
    c.loop-step.invariant in
    prefix_met t c.args.e c.args.at c.args.row c.args.left.now prefix s behind is some.0 c.next.new.self
    c.loop-step.prefix w
    (sym (c.offset.ensures some.0 some.2) ∙ c.if-offset-at.true)

pub returns-then-offset-at-clause-behind : goal.returns-then-offset-at-clause-behind
returns-then-offset-at-clause-behind c = λ prefix s behind is.
    let t = c.args.trace.now in
    let some = c.in-Some.ensures.some in
    let w = subst (λ (xs : List (ℕ × Step)). Walks t c.args.e c.args.at c.args.row c.args.left.now xs
    c.loop-step.prefix) some.1
    c.loop-step.invariant in
    behind_found t c.args.e c.args.at c.args.row c.args.left.now prefix s behind is some.0 c.next.new.self
    c.loop-step.prefix w
    (sym (c.offset.ensures some.0 some.2) ∙ c.if-offset-at.true)

pub after-prefix-requires : goal.after-prefix-requires
after-prefix-requires c =
    room_for c.args.trace.now c.args.e c.args.at c.args.row c.args.left.now c.requires.there.0 c.requires.there.1
    c.requires.there.2 c.requires.there.3 c.loop-step.steps c.loop-step.prefix c.loop-step.invariant c.ranges.at.fits

pub loop-step-preserved : goal.loop-step-preserved
loop-step-preserved c =
    let t = c.args.trace.now in
    let some = c.in-Some.ensures.some in
    let w = subst (λ (xs : List (ℕ × Step)). Walks t c.args.e c.args.at c.args.row c.args.left.now xs
    c.loop-step.prefix) some.1
    c.loop-step.invariant in
    walks_on t c.args.e c.args.at c.args.row c.args.left.now some.0 c.next.new.self c.loop-step.prefix
    c.after-prefix.result w
    (λ same. c.if-offset-at.false (c.offset.ensures some.0 some.2 ∙ same))
    (c.after-prefix.ensures t w.done some.0 w.is some.2)

pub unreachable-requires : goal.unreachable-requires
unreachable-requires c =
    let t = c.args.trace.now in
    not_ended t c.args.e c.args.at c.args.row c.args.left.now c.requires.there.0 c.requires.there.1 c.requires.there.2
    c.requires.there.3 c.loop-step.prefix
    (subst (λ (xs : List (ℕ × Step)). Walks t c.args.e c.args.at c.args.row c.args.left.now xs c.loop-step.prefix)
    c.in_default.ensures.none c.loop-step.invariant)
