use Rattle.std.proofs.Common.{rules, ◌≡◌, ◌+◌, ◌<◌, ◌∷◌, ◌++◌, [], List, map, drop, length}
use Rattle.std.proofs.Common.{refl}
use Rattle.std.proofs.Common.{sym, ap, ◌∙◌, subst, arith}
use Rattle.std.proofs.lemmas.List.{map-append, length-map, nil_from_length}
use Rattle.std.specs.Arc.{arc_value}
use Rattle.eve_grammar.specs.Bodies.{transfer}
use Rattle.eve_grammar.specs.Trace.{Batch, Attempts, Commits, RollsBack, Transfers}
use Rattle.eve_write.specs.Data.{attempt, batch, commit, rollback, sent, step}
use Rattle.eve_replica.specs.inner.RunInvariant.{AreReplies}
use Rattle.eve_replica.proofs.SentReplies.{attempt_sent, commit_sent, empty_commit_sent, rollback_sent, section_sent}
use Rattle.eve_replica.proofs.SentReplies.{transfer_sent}
use Rattle.eve_replica.proofs.SentReplies.{along_is, step_at, first_removed}
use Rattle.eve_replica.proofs.sending.Sender.send_section.Goals as goal
use Rattle.eve_replica.proofs.sending.Sender.send_section.Goals.{
  in-Attempt+in_ok-push-in-Attempt,
  in-Commit+then-not-is_empty+in_ok-send_attempt-in-Commit,
  in-Commit+else-not-is_empty,
  in-Rollback,
  in-Transfer,
}

pub loop-step-preserved : goal.loop-step-preserved
loop-step-preserved c =
    let batches : List Batch = map (λ m. batch m.batch) c.args.self.now.batches.now in
    let steps = c.args.steps.now in
    let i = c.loop-step.step-index in
    let was = c.loop-step.invariant in
    let before = map sent c.loop-step.replies.items in
    let place = c.args.self.now.place in
    let rest = drop (i + 1) (map step steps) in
    elim c.match-step.branch [
      | in-Attempt+in_ok-push-in-Attempt w ↦
          let a = attempt w.in-Attempt.attempt in
          record {
            limits = subst (λ v. AreReplies c.args.self.now.replicas (length c.args.self.now.batches.now) v.items)
                (sym w.replies-is) was.limits;
            sent = along_is batches place before _
                (map (λ x. attempt x.now) c.loop-step.opened.items ++ a ∷ []) _ rest _
                (ap (λ v. map sent v.items) w.replies-is)
                (ap (λ v. map (λ x. attempt x.now) v.items) w.opened-is
                ∙ ap (map (λ x. attempt x.now)) w.in_ok-push-in-Attempt.ensures.items
                ∙ map-append (λ x. attempt x.now) c.loop-step.opened.items _)
                (attempt_sent batches place (map (λ x. attempt x.now) c.loop-step.opened.items) a (map step steps) i
                before _ (omega (arith, length-map steps step))
                (step_at steps i c.step-item.result (Attempts a) (omega arith) c.step-item.is
                (ap step w.in-Attempt.is))
                was.sent);
          }
      | in-Commit+then-not-is_empty+in_ok-send_attempt-in-Commit w ↦
          let a = attempt w.remove-attempt.result.now in
          let d = commit w.in-Commit.field-0 in
          let some : 0 < length c.loop-step.opened.items = search rules in
          record {
            limits = subst (λ v. AreReplies c.args.self.now.replicas (length c.args.self.now.batches.now) v.items)
                (sym w.replies-is) w.in_ok-send_attempt-in-Commit.ensures.limits;
            sent = along_is batches place (map sent w.send_attempt.new.replies.items) _
                (map (λ x. attempt x.now) w.remove-attempt.new.self.items) _ rest _
                (ap (λ v. map sent v.items) w.replies-is)
                (ap (λ v. map (λ x. attempt x.now) v.items) w.opened-is)
                (commit_sent batches place (map (λ x. attempt x.now) w.remove-attempt.new.self.items) a d
                (map step steps) i before (map sent w.send_attempt.new.replies.items) _
                (omega (arith, length-map steps step))
                (step_at steps i c.step-item.result (Commits d) (omega arith) c.step-item.is (ap step w.in-Commit.is))
                w.in_ok-send_attempt-in-Commit.ensures.sent
                (along_is batches place before before (map (λ x. attempt x.now) c.loop-step.opened.items) _
                (drop i (map step steps)) _ refl
                (sym (ap (map (λ x. attempt x.now))
                (first_removed c.loop-step.opened.items w.remove-attempt.result some w.remove-attempt.ensures.value
                ∙ ap (λ xs. w.remove-attempt.result ∷ xs) (sym w.remove-attempt.ensures.items))))
                was.sent));
          }
      | in-Commit+else-not-is_empty w ↦
          let d = commit w.in-Commit.field-0 in
          let empty : length c.loop-step.opened.items ≡ 0 = search rules in
          let none = nil_from_length c.loop-step.opened.items empty in
          record {
            limits = subst (λ v. AreReplies c.args.self.now.replicas (length c.args.self.now.batches.now) v.items)
                (sym w.replies-is) was.limits;
            sent = along_is batches place before _ [] _ rest _ (ap (λ v. map sent v.items) w.replies-is)
                (ap (λ v. map (λ x. attempt x.now) v.items) w.opened-is ∙ ap (map (λ x. attempt x.now)) none)
                (empty_commit_sent batches place d (map step steps) i before _ (omega (arith, length-map steps step))
                (step_at steps i c.step-item.result (Commits d) (omega arith) c.step-item.is (ap step w.in-Commit.is))
                (along_is batches place before before (map (λ x. attempt x.now) c.loop-step.opened.items) []
                (drop i (map step steps)) _ refl
                (sym (ap (map (λ x. attempt x.now)) none)) was.sent));
          }
      | in-Rollback w ↦
          let r = rollback w.in-Rollback.field-0 in
          record {
            limits = subst (λ v. AreReplies c.args.self.now.replicas (length c.args.self.now.batches.now) v.items)
                (sym w.replies-is) was.limits;
            sent = along_is batches place before _ [] _ rest _ (ap (λ v. map sent v.items) w.replies-is)
                (ap (λ v. map (λ x. attempt x.now) v.items) w.opened-is
                ∙ ap (map (λ x. attempt x.now)) w.clear.ensures.items)
                (rollback_sent batches place (map (λ x. attempt x.now) c.loop-step.opened.items) r (map step steps) i
                before _ (omega (arith, length-map steps step))
                (step_at steps i c.step-item.result (RollsBack r) (omega arith) c.step-item.is
                (ap step w.in-Rollback.is))
                was.sent);
          }
      | in-Transfer w ↦
          let x = transfer (arc_value w.in-Transfer.field-0) in
          let none : c.match-step.opened.items ≡ [] = cc in
          record {
            limits = subst (λ v. AreReplies c.args.self.now.replicas (length c.args.self.now.batches.now) v.items)
                (sym w.replies-is) was.limits;
            sent = along_is batches place before _ [] _ rest _ (ap (λ v. map sent v.items) w.replies-is)
                (ap (map (λ x. attempt x.now)) none)
                (transfer_sent batches place (map (λ x. attempt x.now) c.loop-step.opened.items) x (map step steps) i
                before _ (omega (arith, length-map steps step))
                (step_at steps i c.step-item.result (Transfers x) (omega arith) c.step-item.is
                (ap step w.in-Transfer.is))
                was.sent);
          }
    ]

pub returns-clause-sent : goal.returns-clause-sent
returns-clause-sent c =
    section_sent (map (λ m. batch m.batch) c.args.self.now.batches.now) c.args.self.now.place
    (map (λ x. attempt x.now) c.loop-step.opened.items) (map step c.args.steps.now) c.loop-step.step-index
    (map sent c.loop-step.replies.items) _ (omega (arith, length-map c.args.steps.now step))
    c.loop-step.invariant.sent
