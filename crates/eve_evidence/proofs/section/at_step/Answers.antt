use Rattle.eve_evidence.specs.inner.Places.{ToldAlong, NoneAlong, ToldAtStep, NoneAtStep}
use Rattle.eve_evidence.proofs.StepFrames.{told_at_step, none_at_step}
use Rattle.eve_evidence.proofs.Lists.{if_some, if_none_weaker}
use Rattle.eve_evidence.proofs.section.at_step.Goals as goal

pub returns-in_default-clause-told : goal.returns-in_default-clause-told
returns-in_default-clause-told c =
    let t = c.args.trace.now in
    let course = c.args.course.now in
    let attempt = c.in-Attempt.attempt in
    let xs = c.in-Attempt.accesses in
    if_some c.at_accesses.result (ToldAlong c.args.code t c.args.place course attempt xs)
    (ToldAtStep c.args.code t c.args.place course c.args.step.now)
    (λ x told. told_at_step c.args.code t c.args.place course attempt xs c.args.step.now c.in-Attempt.is x told)
    c.at_accesses.ensures.told

pub returns-in_default-clause-none : goal.returns-in_default-clause-none
returns-in_default-clause-none c =
    let t = c.args.trace.now in
    let course = c.args.course.now in
    let attempt = c.in-Attempt.attempt in
    let xs = c.in-Attempt.accesses in
    if_none_weaker c.at_accesses.result (NoneAlong c.args.code t c.args.place course attempt xs)
    (NoneAtStep c.args.code t c.args.place course c.args.step.now)
    (λ none. none_at_step c.args.code t c.args.place course attempt xs c.args.step.now c.in-Attempt.is
    c.in_default.ensures.none none)
    c.at_accesses.ensures.none
