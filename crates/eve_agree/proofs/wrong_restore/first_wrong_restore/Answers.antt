use Rattle.std.proofs.Common.{◌≡◌, ◌<◌, ◌*◌, ℕ, refl, List, [], length, ap, subst, sym, ◌∙◌, arith, rules}
use Rattle.eve_grammar.specs.Trace.{Step}
use Rattle.eve_grammar.specs.Spelling.{steps_at}
use Rattle.eve_frames.specs.Views.{rollback_in}
use Rattle.eve_views.specs.Form.{SomePlace}
use Rattle.eve_history.specs.Section.{start, state_after}
use Rattle.eve_history.proofs.Places.{no_place, At}
use Rattle.eve_agree.proofs.RestoresInOrder.{IsWrong, within_told, attempt_told, there_told, restores_fit}
use Rattle.eve_agree.proofs.WrongRestores.{Laws, Seeks, section_seen, seek_first, seek_attempt, seek_commit}
use Rattle.eve_agree.proofs.WrongRestores.{seek_transfer, seek_rollback, wrong_here, seek_further}
use Rattle.eve_agree.proofs.wrong_restore.first_wrong_restore.Goals as goal

pub section-steps-requires : goal.section-steps-requires
section-steps-requires c =
    subst (λ (e : ℕ). e < length c.args.trace.now.sections) (sym c.replica.ensures)
    (section_seen c.args.trace.now c.args.history.now.replica _ c.requires.stands)

pub loop-step-init : goal.loop-step-init
loop-step-init c =
    let t = c.args.trace.now in
    let e = c.args.history.now.replica in
    subst (λ (xs : List (ℕ × Step)). Seeks t e c.args.at xs 0 0)
    (sym (c.section-steps.ensures ∙ ap (steps_at t) c.replica.ensures)) (seek_first t e c.args.at c.requires.stands)

pub prove-unreachable-requires : goal.prove-unreachable-requires
prove-unreachable-requires c =
    let t = c.args.trace.now in
    let come = seek_attempt t c.args.history.now.replica c.args.at c.loop-step.steps c.next.new.self c.loop-step.first
    c.loop-step.end c.in-Some.step c.in-Attempt.field-0 c.in-Attempt.field-1 c.in-Some.ensures.some c.in-Attempt.is
    c.loop-step.invariant in
    let there = attempt_told t c.args.history.now c.requires.history c.loop-step.end come.1 in
    let many : c.attempts.result ≡ length c.args.history.now.attempts = c.attempts.ensures.attempts in
    omega (arith, c.if-prove.true)

pub loop-step-preserved-in-Attempt : goal.loop-step-preserved-in-Attempt
loop-step-preserved-in-Attempt c =
    (seek_attempt c.args.trace.now c.args.history.now.replica c.args.at c.loop-step.steps c.next.new.self
    c.loop-step.first c.loop-step.end c.in-Some.step c.in-Attempt.field-0 c.in-Attempt.field-1 c.in-Some.ensures.some
    c.in-Attempt.is c.loop-step.invariant).0

pub overflow_add-first : goal.overflow_add-first
overflow_add-first c =
    let less : c.loop-step.first < c.loop-step.end =
    (seek_commit c.args.trace.now c.args.history.now.replica c.args.at c.loop-step.steps c.next.new.self
    c.loop-step.first c.loop-step.end c.in-Some.step c.in-Commit.field-0
    (c.recall_right.ensures.section c.args.trace.now c.args.history.now.replica c.requires.history)
    c.in-Some.ensures.some c.in-Commit.is c.loop-step.invariant).1 in
    omega (arith, c.loop-step.auto.end-fits)

pub loop-step-preserved-in-Commit : goal.loop-step-preserved-in-Commit
loop-step-preserved-in-Commit c =
    (seek_commit c.args.trace.now c.args.history.now.replica c.args.at c.loop-step.steps c.next.new.self
    c.loop-step.first c.loop-step.end c.in-Some.step c.in-Commit.field-0
    (c.recall_right.ensures.section c.args.trace.now c.args.history.now.replica c.requires.history)
    c.in-Some.ensures.some c.in-Commit.is c.loop-step.invariant).0

pub loop-step-preserved : goal.loop-step-preserved
loop-step-preserved c =
    seek_transfer c.args.trace.now c.args.history.now.replica c.args.at c.loop-step.steps c.next.new.self
    c.loop-step.first c.loop-step.end c.in-Some.step c.in-Transfer.field-0 c.in-Some.ensures.some c.in-Transfer.is
    c.loop-step.invariant

pub wrong_at-requires-clause-there : goal.wrong_at-requires-clause-there
wrong_at-requires-clause-there c =
    let t = c.args.trace.now in
    let here = seek_rollback t c.args.history.now.replica c.args.at c.loop-step.steps c.next.new.self
    c.loop-step.first c.loop-step.end c.in-Some.step c.in-Rollback.rollback c.in-Some.ensures.some c.in-Rollback.is
    c.loop-step.invariant in
    there_told t c.args.history.now c.requires.history c.in-Rollback.rollback.offset
    (rollback_in c.in-Rollback.rollback.bytes.now) here.prefix c.next.new.self c.loop-step.first c.loop-step.end
    here.come

pub wrong_at-requires-clause-within : goal.wrong_at-requires-clause-within
wrong_at-requires-clause-within c = within_told c.args.trace.now c.args.history.now c.requires.history
    (2 * length c.args.trace.now.customers) c.recall_limits.ensures refl

pub wrong_at-requires-clause-rows : goal.wrong_at-requires-clause-rows
wrong_at-requires-clause-rows c =
    let t = c.args.trace.now in
    let r = rollback_in c.in-Rollback.rollback.bytes.now in
    let here = seek_rollback t c.args.history.now.replica c.args.at c.loop-step.steps c.next.new.self
    c.loop-step.first c.loop-step.end c.in-Some.step c.in-Rollback.rollback c.in-Some.ensures.some c.in-Rollback.is
    c.loop-step.invariant in
    (restores_fit t c.args.history.now.replica c.in-Rollback.rollback.offset r here.prefix c.next.new.self
    c.loop-step.first c.loop-step.end here.come c.recall_limits.ensures).0

pub returns-in-Some-2 : goal.returns-in-Some-2
returns-in-Some-2 c =
    let t = c.args.trace.now in
    let h = c.args.history.now in
    let r = rollback_in c.in-Rollback.rollback.bytes.now in
    let laws : Laws t h.replica = record {
      see = c.faults_tell_what_is_wrong.ensures.see t h.replica;
      fit = c.faults_tell_what_is_wrong.ensures.fit t h.replica;
      sound = c.sound_attempts_fit_and_see.ensures.sound t h.replica;
    } in
    let here = seek_rollback t h.replica c.args.at c.loop-step.steps c.next.new.self c.loop-step.first c.loop-step.end
    c.in-Some.step c.in-Rollback.rollback c.in-Some.ensures.some c.in-Rollback.is c.loop-step.invariant in
    let found = rw c.in-Some-2.is at c.in_ok-wrong-in-Rollback.ensures.some in
    wrong_here t h c.requires.history laws c.recall_limits.ensures
    (c.recall_right.ensures.section t h.replica c.requires.history) c.requires.none c.args.at
    c.in-Rollback.rollback.offset r c.next.new.self c.loop-step.first c.loop-step.end here c.in-Some-2.wrong found.0
    found.1

pub loop-step-preserved-in-Rollback : goal.loop-step-preserved-in-Rollback
loop-step-preserved-in-Rollback c =
    let t = c.args.trace.now in
    let h = c.args.history.now in
    let r = rollback_in c.in-Rollback.rollback.bytes.now in
    let laws : Laws t h.replica = record {
      see = c.faults_tell_what_is_wrong.ensures.see t h.replica;
      fit = c.faults_tell_what_is_wrong.ensures.fit t h.replica;
      sound = c.sound_attempts_fit_and_see.ensures.sound t h.replica;
    } in
    let here = seek_rollback t h.replica c.args.at c.loop-step.steps c.next.new.self c.loop-step.first c.loop-step.end
    c.in-Some.step c.in-Rollback.rollback c.in-Some.ensures.some c.in-Rollback.is c.loop-step.invariant in
    let rising = (restores_fit t h.replica c.in-Rollback.rollback.offset r here.prefix c.next.new.self c.loop-step.first
    c.loop-step.end here.come c.recall_limits.ensures).1 in
    let same = rw c.in_default-2.is at c.in_ok-wrong-in-Rollback.ensures.none in
    seek_further t h c.requires.history laws c.recall_limits.ensures
    (c.recall_right.ensures.section t h.replica c.requires.history) c.requires.none c.args.at
    c.in-Rollback.rollback.offset r c.next.new.self c.loop-step.first c.loop-step.end here rising same

pub unreachable-requires : goal.unreachable-requires
unreachable-requires c =
    let none : c.loop-step.steps ≡ [] = search rules in
    let ahead = At c.args.at (IsWrong c.args.trace.now (state_after start c.loop-step.invariant.prefix)) in
    no_place ahead (subst (λ (xs : List (ℕ × Step)). SomePlace xs ahead) none c.loop-step.invariant.ahead)
