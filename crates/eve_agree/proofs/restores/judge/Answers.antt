use Rattle.std.proofs.Common.{◌≡◌, ◌<◌, ◌*◌, ℕ, true, false, List, [], IsTrue, Some, None, length, ap, subst, sym, ◌∙◌}
use Rattle.std.proofs.Common.{arith, rules}
use Rattle.std.specs.List.{list_all}
use Rattle.std.proofs.lemmas.List.{length-replicate}
use Rattle.eve_grammar.specs.Trace.{Step}
use Rattle.eve_grammar.specs.Spelling.{steps_at}
use Rattle.eve_grammar.specs.Limits.{is_restore}
use Rattle.eve_frames.specs.Views.{rollback_in}
use Rattle.eve_views.specs.Form.{IfFound, IsLeast, IsFaultIn}
use Rattle.eve_views.specs.declared.fault.CheckFault.{CheckFault}
use Rattle.eve_views.specs.declared.fault.CheckFault.TheVariants.{Found}
use Rattle.eve_views.specs.declared.fault.Code.TheVariants as code
use Rattle.eve_agree.specs.Marks.{marking_of}
use Rattle.eve_agree.proofs.MarkLaws.{none_marked}
use Rattle.eve_agree.proofs.RestoresInOrder.{HasJudged, judged_start, on_attempt, on_commit, on_transfer}
use Rattle.eve_agree.proofs.RestoresInOrder.{on_rollback, judged_rollback, restores_fit, wrong_is_least, judged_end}
use Rattle.eve_agree.proofs.RestoresInOrder.{right_told, section_told, within_told, attempt_told}
use Rattle.eve_agree.proofs.RestoresInOrder.{there_told, found_told}
use Rattle.eve_agree.specs.Restores.{StandsInRestores}
use Rattle.eve_agree.proofs.restores.judge.Goals as goal

pub returns-then-rollbacks-eq0-clause-right : goal.returns-then-rollbacks-eq0-clause-right
returns-then-rollbacks-eq0-clause-right c = λ _. right_told c.args.trace.now c.args.history.now
    c.requires.history (sym c.rollbacks.ensures ∙ c.if-rollbacks-eq0.true)

pub section-steps-requires : goal.section-steps-requires
section-steps-requires c =
    subst (λ (e : ℕ). e < length c.args.trace.now.sections) (sym c.replica.ensures)
    (section_told c.args.trace.now c.args.history.now c.requires.history
    (λ none. c.if-rollbacks-eq0.false (c.rollbacks.ensures ∙ none)))

pub loop-step-init : goal.loop-step-init
loop-step-init c = record {
  judged = subst (λ (xs : List (ℕ × Step)). HasJudged c.args.trace.now c.args.history.now.replica xs 0 0)
      (sym (c.section-steps.ensures ∙ ap (steps_at c.args.trace.now) c.replica.ensures))
      (judged_start c.args.trace.now c.args.history.now.replica);
  many = ap length c.in_ok-marks.ensures ∙ length-replicate (2 * c.customer_count.result) None
      ∙ ap (λ (n : ℕ). 2 * n) c.customer_count.ensures;
  none = ap marking_of c.in_ok-marks.ensures ∙ none_marked (2 * c.customer_count.result);
}

pub prove-unreachable-requires : goal.prove-unreachable-requires
prove-unreachable-requires c =
    let t = c.args.trace.now in
    let come = on_attempt t c.args.history.now.replica c.loop-step.steps c.next.new.self c.loop-step.first
    c.loop-step.end c.in-Some.step c.in-Attempt.field-0 c.in-Attempt.field-1 c.in-Some.ensures.some c.in-Attempt.is
    c.loop-step.invariant.judged in
    let there = attempt_told t c.args.history.now c.requires.history c.loop-step.end come.1 in
    let many : c.attempts.result ≡ length c.args.history.now.attempts = c.attempts.ensures.attempts in
    omega (arith, c.if-prove.true)

pub loop-step-preserved-in-Attempt : goal.loop-step-preserved-in-Attempt
loop-step-preserved-in-Attempt c =
    let t = c.args.trace.now in
    record {
      judged = (on_attempt t c.args.history.now.replica c.loop-step.steps c.next.new.self c.loop-step.first
          c.loop-step.end c.in-Some.step c.in-Attempt.field-0 c.in-Attempt.field-1
          c.in-Some.ensures.some c.in-Attempt.is
          c.loop-step.invariant.judged).0;
      many = c.loop-step.invariant.many;
      none = c.loop-step.invariant.none;
    }

pub overflow_add-first : goal.overflow_add-first
overflow_add-first c =
    let t = c.args.trace.now in
    let less : c.loop-step.first < c.loop-step.end =
    (on_commit t c.args.history.now.replica c.loop-step.steps c.next.new.self c.loop-step.first c.loop-step.end
    c.in-Some.step c.in-Commit.field-0 c.requires.right c.in-Some.ensures.some c.in-Commit.is
    c.loop-step.invariant.judged).1 in
    omega (arith, c.loop-step.auto.end-fits)

pub loop-step-preserved-in-Commit : goal.loop-step-preserved-in-Commit
loop-step-preserved-in-Commit c =
    let t = c.args.trace.now in
    record {
      judged = (on_commit t c.args.history.now.replica c.loop-step.steps c.next.new.self c.loop-step.first
          c.loop-step.end c.in-Some.step c.in-Commit.field-0 c.requires.right c.in-Some.ensures.some c.in-Commit.is
          c.loop-step.invariant.judged).0;
      many = c.loop-step.invariant.many;
      none = c.loop-step.invariant.none;
    }

pub loop-step-preserved : goal.loop-step-preserved
loop-step-preserved c =
    let t = c.args.trace.now in
    record {
      judged = on_transfer t c.args.history.now.replica c.loop-step.steps c.next.new.self c.loop-step.first
          c.loop-step.end c.in-Some.step c.in-Transfer.field-0 c.in-Some.ensures.some c.in-Transfer.is
          c.loop-step.invariant.judged;
      many = c.loop-step.invariant.many;
      none = c.loop-step.invariant.none;
    }

pub is_right-requires-clause-there : goal.is_right-requires-clause-there
is_right-requires-clause-there c =
    let t = c.args.trace.now in
    let here = on_rollback t c.args.history.now.replica c.loop-step.steps c.next.new.self c.loop-step.first
    c.loop-step.end c.in-Some.step c.in-Rollback.rollback c.in-Some.ensures.some c.in-Rollback.is
    c.loop-step.invariant.judged in
    there_told t c.args.history.now c.requires.history c.in-Rollback.rollback.offset
    (rollback_in c.in-Rollback.rollback.bytes.now) here.prefix c.next.new.self c.loop-step.first c.loop-step.end
    here.come

pub is_right-requires-clause-within : goal.is_right-requires-clause-within
is_right-requires-clause-within c = within_told c.args.trace.now c.args.history.now c.requires.history
    (length c.loop-step.marks) c.recall_limits.ensures c.loop-step.invariant.many

pub is_right-requires-clause-rows : goal.is_right-requires-clause-rows
is_right-requires-clause-rows c =
    let t = c.args.trace.now in
    let r = rollback_in c.in-Rollback.rollback.bytes.now in
    let here = on_rollback t c.args.history.now.replica c.loop-step.steps c.next.new.self c.loop-step.first
    c.loop-step.end c.in-Some.step c.in-Rollback.rollback c.in-Some.ensures.some c.in-Rollback.is
    c.loop-step.invariant.judged in
    subst (λ (n : ℕ). IsTrue (list_all (is_restore n) r.restores)) (sym c.loop-step.invariant.many)
    (restores_fit t c.args.history.now.replica c.in-Rollback.rollback.offset r here.prefix c.next.new.self
    c.loop-step.first c.loop-step.end here.come c.recall_limits.ensures).0

pub is_right-requires-clause-restores : goal.is_right-requires-clause-restores
is_right-requires-clause-restores c =
    let t = c.args.trace.now in
    let r = rollback_in c.in-Rollback.rollback.bytes.now in
    let here = on_rollback t c.args.history.now.replica c.loop-step.steps c.next.new.self c.loop-step.first
    c.loop-step.end c.in-Some.step c.in-Rollback.rollback c.in-Some.ensures.some c.in-Rollback.is
    c.loop-step.invariant.judged in
    (restores_fit t c.args.history.now.replica c.in-Rollback.rollback.offset r here.prefix c.next.new.self
    c.loop-step.first c.loop-step.end here.come c.recall_limits.ensures).1

pub returns-then-not-is_right-clause-least : goal.returns-then-not-is_right-clause-least
returns-then-not-is_right-clause-least c = λ sound.
    let t = c.args.trace.now in
    let h = c.args.history.now in
    let r = rollback_in c.in-Rollback.rollback.bytes.now in
    let o = c.in-Rollback.rollback.offset in
    let no : c.is_right.result ≡ false = search rules in
    let here = on_rollback t c.args.history.now.replica c.loop-step.steps c.next.new.self c.loop-step.first
    c.loop-step.end c.in-Some.step c.in-Rollback.rollback c.in-Some.ensures.some c.in-Rollback.is
    c.loop-step.invariant.judged in
    let found = found_told t h c.requires.history o r here.prefix c.next.new.self c.loop-step.first c.loop-step.end
    here.come c.is_right.result c.recall_limits.ensures c.requires.right sound c.is_right.ensures.right in
    let least = wrong_is_least t h.replica o r c.next.new.self c.loop-step.first c.loop-step.end here sound
    (sym found ∙ no) in
    let same : c.wrong.result ≡ Found (record { code = code.Restore; offset = o; replica = Some h.replica }) =
    c.wrong.ensures ∙ (λ i. Found
    (record {
      code = code.Restore;
      offset = c.offset.ensures i;
      replica = Some (c.replica-then-not-is_right.ensures i);
    })) in
    subst (λ (x : CheckFault). IfFound x (IsLeast (IsFaultIn StandsInRestores t h.replica))) (sym same) least

pub loop-step-preserved-in-Rollback : goal.loop-step-preserved-in-Rollback
loop-step-preserved-in-Rollback c =
    let t = c.args.trace.now in
    let h = c.args.history.now in
    let r = rollback_in c.in-Rollback.rollback.bytes.now in
    let o = c.in-Rollback.rollback.offset in
    let yes : c.is_right.result ≡ true = search rules in
    let here = on_rollback t c.args.history.now.replica c.loop-step.steps c.next.new.self c.loop-step.first
    c.loop-step.end c.in-Some.step c.in-Rollback.rollback c.in-Some.ensures.some c.in-Rollback.is
    c.loop-step.invariant.judged in
    record {
      judged = judged_rollback t h.replica o r c.next.new.self c.loop-step.first c.loop-step.end here (λ sound.
          sym (found_told t h c.requires.history o r here.prefix c.next.new.self c.loop-step.first c.loop-step.end
          here.come c.is_right.result c.recall_limits.ensures c.requires.right sound c.is_right.ensures.right) ∙ yes);
      many = c.is_right.ensures.as_many ∙ c.loop-step.invariant.many;
      none = c.is_right.ensures.none yes;
    }

pub returns-clause-right : goal.returns-clause-right
returns-clause-right c =
    let t = c.args.trace.now in
    let e = c.args.history.now.replica in
    let none : c.loop-step.steps ≡ [] = search rules in
    judged_end t e c.loop-step.first c.loop-step.end
    (subst (λ (xs : List (ℕ × Step)). HasJudged t e xs c.loop-step.first c.loop-step.end) none
    c.loop-step.invariant.judged)
