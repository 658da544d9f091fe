use Rattle.std.proofs.Common.{sym, subst}
use Rattle.eve_evidence_outcomes.proofs.MissingMajorities.{Ahead, all_ahead, none_ahead, goes_on}
use Rattle.eve_evidence_outcomes.proofs.majority.majority_evidence.Goals as goal

pub loop-step-init : goal.loop-step-init
loop-step-init c =
    let t = c.args.trace.now in
    subst (Ahead c.args.code t c.args.e c.args.place) (sym c.section-steps.ensures)
    (all_ahead c.args.code t c.args.e c.args.place c.recall_limits.ensures c.requires.right c.requires.stands)

pub loop-step-preserved : goal.loop-step-preserved
loop-step-preserved c =
    let t = c.args.trace.now in
    let some = c.in-Some.ensures.some in
    let none = c.in_default-at_step.ensures.none in
    goes_on c.args.code t c.args.e c.args.place some.0 c.next.new.self
    (subst (Ahead c.args.code t c.args.e c.args.place) some.1 c.loop-step.invariant) (none some.0 some.2)

pub unreachable-requires : goal.unreachable-requires
unreachable-requires c =
    none_ahead c.args.code c.args.trace.now c.args.e c.args.place
    (subst (Ahead c.args.code c.args.trace.now c.args.e c.args.place) c.in_default.ensures.none c.loop-step.invariant)
