use Rattle.std.proofs.Common.{ℕ, List, sym, subst}
use Rattle.eve_grammar.specs.Trace.{Step}
use Rattle.eve_history.specs.Section.{start, state_after}
use Rattle.eve_evidence.specs.Section.{TellsStep}
use Rattle.eve_evidence.proofs.StepsAhead.{Goes, goes_first, goes_no_further, goes_on, none_seen, now, told_again}
use Rattle.eve_evidence.proofs.section.section_evidence.Goals as goal

pub loop-step-init : goal.loop-step-init
loop-step-init c =
    let t = c.args.trace.now in
    subst (λ (xs : List (ℕ × Step)). Goes c.args.code t c.args.e c.args.place xs c.start-course.result)
    (sym c.section-steps.ensures)
    (goes_first c.args.code t c.args.e c.args.place c.start-course.result c.start-course.ensures c.requires.stands)

pub loop-step-preserved : goal.loop-step-preserved
loop-step-preserved c =
    let t = c.args.trace.now in
    let some = c.in-Some.ensures.some in
    let goes = subst (λ (xs : List (ℕ × Step)). Goes c.args.code t c.args.e c.args.place xs c.loop-step.course) some.1
    c.loop-step.invariant in
    goes_on c.args.code t c.args.e c.args.place some.0 c.next.new.self c.loop-step.course c.take.new.self goes
    (c.in_default-at_step.ensures.none (now c.args.code t c.args.e c.args.place some.0 c.next.new.self
    c.loop-step.course
    c.take.new.self goes) some.0 goes.is some.2)
    (c.in_ok-take.ensures (now c.args.code t c.args.e c.args.place some.0 c.next.new.self c.loop-step.course
    c.take.new.self goes) some.0 goes.is some.2)

pub unreachable-requires : goal.unreachable-requires
unreachable-requires c =
    let t = c.args.trace.now in
    goes_no_further c.args.code t c.args.e c.args.place c.loop-step.course
    (subst (λ (xs : List (ℕ × Step)). Goes c.args.code t c.args.e c.args.place xs c.loop-step.course)
    c.in_default.ensures.none c.loop-step.invariant)

pub seen_at-seen-requires-clause-look : goal.seen_at-seen-requires-clause-look
seen_at-seen-requires-clause-look c =
    let t = c.args.trace.now in
    let some = c.in-Some.ensures.some in
    let goes = subst (λ (xs : List (ℕ × Step)). Goes c.args.code t c.args.e c.args.place xs c.loop-step.course) some.1
    c.loop-step.invariant in
    (goes.prefix, some.0, c.next.new.self, goes.split, some.2, goes.is)

pub returns-in-Chain : goal.returns-in-Chain
returns-in-Chain c =
    let t = c.args.trace.now in
    let some = c.in-Some.ensures.some in
    let goes = subst (λ (xs : List (ℕ × Step)). Goes c.args.code t c.args.e c.args.place xs c.loop-step.course) some.1
    c.loop-step.invariant in
    let s = state_after start goes.prefix in
    record {
      prefix = goes.prefix;
      step = some.0;
      behind = c.next.new.self;
      is = goes.split;
      told = told_again c.args.code t c.args.place s some.0 _ _ _ _ _ _
          (subst (TellsStep c.args.code t c.args.place s some.0) c.in-Chain.is
          (c.in-Some-at_step.ensures.told s some.0 goes.is some.2));
      seen = c.seen_at-seen.ensures goes.prefix some.0 c.next.new.self goes.split some.2 goes.is _ _ _ _ _
          c.in-Chain.is;
    }

pub returns-in_default-found : goal.returns-in_default-found
returns-in_default-found c =
    let t = c.args.trace.now in
    let some = c.in-Some.ensures.some in
    let goes = subst (λ (xs : List (ℕ × Step)). Goes c.args.code t c.args.e c.args.place xs c.loop-step.course) some.1
    c.loop-step.invariant in
    let s = state_after start goes.prefix in
    record {
      prefix = goes.prefix;
      step = some.0;
      behind = c.next.new.self;
      is = goes.split;
      told = c.in-Some-at_step.ensures.told s some.0 goes.is some.2;
      seen = none_seen t goes.prefix some.0 c.next.new.self c.in-Some-at_step.found c.in_default-found.not-Chain;
    }
