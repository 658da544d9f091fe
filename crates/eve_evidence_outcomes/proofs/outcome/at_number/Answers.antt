use Rattle.std.proofs.Common.{◌≡◌, refl, subst, arith}
use Rattle.std.specs.Prelude.{IfSome, IfNone}
use Rattle.eve_frames.specs.Decoded.{attempt_decoded}
use Rattle.eve_chains.specs.Committed.{balances_to}
use Rattle.eve_chains.specs.CommittedValues.{settling}
use Rattle.eve_agree.proofs.ByNumber.{committed_settled}
use Rattle.eve_evidence_outcomes.specs.Outcome.{TellsOutcomeFault}
use Rattle.eve_evidence_outcomes.proofs.Differences.{none_there, elsewhere, some_first, same_outcome, other_outcome}
use Rattle.eve_evidence_outcomes.proofs.outcome.at_number.Goals as goal

pub returns-in_default-clause-none : goal.returns-in_default-clause-none
returns-in_default-clause-none c =
    let t = c.args.trace.now in
    let e = c.args.e in
    none_there t e c.args.n c.args.place (c.in_default.ensures.none t e c.history_at.ensures)

pub returns-then-offset-place-clause-none : goal.returns-then-offset-place-clause-none
returns-then-offset-place-clause-none c =
    let t = c.args.trace.now in
    let e = c.args.e in
    elsewhere t e c.args.n c.args.place c.in-Some.own (c.in-Some.ensures.some t e c.history_at.ensures)
    (λ at. absurd (omega (arith, c.if-offset-place.true, c.offset.ensures, at)))

pub returns-in_default-first_committed-clause-none : goal.returns-in_default-first_committed-clause-none
returns-in_default-first_committed-clause-none c =
    let t = c.args.trace.now in
    let e = c.args.e in
    absurd (some_first t e c.args.n c.args.place c.in-Some.own (c.in-Some.ensures.some t e c.history_at.ensures)
    c.requires.there
    (c.in_default-first_committed.ensures.none t c.requires.histories))

pub outcome_fault-requires-clause-its_number : goal.outcome_fault-requires-clause-its_number
outcome_fault-requires-clause-its_number c =
    let t = c.args.trace.now in
    let f = c.in-Some-first_committed.first.replica in
    let its = c.in-Some-first_committed.ensures.some t c.requires.histories in
    committed_settled t f c.args.n its.2.placed (settling t f) refl its.2.committed

pub returns-in-Ok-Some-clause-told : goal.returns-in-Ok-Some-clause-told
returns-in-Ok-Some-clause-told c =
    let t = c.args.trace.now in
    let e = c.args.e in
    let a = c.in-Some.own in
    let b = c.in-Some-first_committed.first.attempt in
    let f = c.in-Some-first_committed.first.replica in
    let its = c.in-Some-first_committed.ensures.some t c.requires.histories in
    let at : a.offset ≡ c.args.place = omega (arith, c.if-offset-place.false, c.offset.ensures) in
    other_outcome t e c.args.n c.args.place a (c.in-Some.ensures.some t e c.history_at.ensures) f b its.1 its.2 at
    c.told_attempt.result c.told_attempt.ensures c.offset-in-Ok-Some.result c.offset-in-Ok-Some.ensures
    c.in-Ok-Some.wrong
    (subst (λ o. IfSome o (TellsOutcomeFault t e f c.args.n (attempt_decoded a).replies (attempt_decoded b).replies))
    c.in-Ok-Some.field-0-is c.in-Ok-Some.ensures.told)

pub returns-in-Ok-None-clause-none : goal.returns-in-Ok-None-clause-none
returns-in-Ok-None-clause-none c =
    let t = c.args.trace.now in
    let e = c.args.e in
    let a = c.in-Some.own in
    let b = c.in-Some-first_committed.first.attempt in
    let f = c.in-Some-first_committed.first.replica in
    let its = c.in-Some-first_committed.ensures.some t c.requires.histories in
    let same = subst (λ o. IfNone o ((balances_to t e c.args.n ≡ balances_to t f c.args.n)
    × ((attempt_decoded a).replies ≡ (attempt_decoded b).replies))) c.in-Ok-None.field-0-is c.in-Ok-None.ensures.none in
    same_outcome t e c.args.n c.args.place a (c.in-Some.ensures.some t e c.history_at.ensures) f b its.1 its.2 same.0
    same.1
