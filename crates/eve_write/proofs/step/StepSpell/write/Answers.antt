use Rattle.std.proofs.Common.{sym, ap, ◌∙◌, subst, append-nil}
use Rattle.std.specs.Arc.{arc_value}
use Rattle.eve_grammar.specs.Bodies.{transfer}
use Rattle.eve_grammar.specs.Frames.{OfCommit, OfRollback, OfTransfer}
use Rattle.eve_grammar.specs.Spelling.{frame_text, step_text}
use Rattle.eve_write.specs.Data.{step, commit, rollback}
use Rattle.eve_write.specs.Writes.{Writes}
use Rattle.eve_write.proofs.step.StepSpell.write.Goals as goal

pub returns-in-Attempt : goal.returns-in-Attempt
returns-in-Attempt g c =
    subst (Writes g.W.Sink.written g.W.Sink.failures c.args.out.now c.write_frames.new.out c.write_frames.result)
    (sym (ap (λ s. step_text (step s)) c.in-Attempt.is)) c.write_frames.ensures

pub returns-in-Commit : goal.returns-in-Commit
returns-in-Commit g c =
    subst (Writes g.W.Sink.written g.W.Sink.failures c.args.out.now c.write_commit.new.out c.write_commit.result)
    (sym (append-nil (frame_text (OfCommit (commit c.in-Commit.commit))))
    ∙ sym (ap (λ s. step_text (step s)) c.in-Commit.is)) c.write_commit.ensures

pub returns-in-Rollback : goal.returns-in-Rollback
returns-in-Rollback g c =
    subst (Writes g.W.Sink.written g.W.Sink.failures c.args.out.now c.write_rollback.new.out c.write_rollback.result)
    (sym (append-nil (frame_text (OfRollback (rollback c.in-Rollback.rollback))))
    ∙ sym (ap (λ s. step_text (step s)) c.in-Rollback.is)) c.write_rollback.ensures

pub returns-in-Transfer : goal.returns-in-Transfer
returns-in-Transfer g c =
    subst (Writes g.W.Sink.written g.W.Sink.failures c.args.out.now c.write_transfer.new.out c.write_transfer.result)
    (ap (λ x. frame_text (OfTransfer (transfer x))) c.deref.ensures
    ∙ sym (append-nil (frame_text (OfTransfer (transfer (arc_value c.in-Transfer.transfer)))))
    ∙ sym (ap (λ s. step_text (step s)) c.in-Transfer.is)) c.write_transfer.ensures
