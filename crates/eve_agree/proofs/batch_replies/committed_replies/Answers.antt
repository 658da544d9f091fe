use Rattle.std.proofs.Common.{sym, subst, ◌∙◌}
use Rattle.std.specs.Prelude.{IsTrue}
use Rattle.std.specs.List.{list_all}
use Rattle.eve_grammar.specs.Limits.{is_reply}
use Rattle.eve_frames.specs.Views.{attempt_in}
use Rattle.eve_agree.proofs.AnsweredRequests.{spelled_none, spelled_some}
use Rattle.eve_agree.proofs.batch_replies.committed_replies.Goals as goal

pub returns-then-not-has_committed : goal.returns-then-not-has_committed
returns-then-not-has_committed c = λ t e is.
    spelled_none t e c.args.batch c.args.history.now is (sym c.has_committed.ensures ∙ c.if-not-has_committed.true)

pub returns : goal.returns
returns c = λ t e is.
    let bytes = c.committed_attempt-attempt.result.bytes.now in
    let got = c.committed_attempt-attempt.ensures in
    let fit : IsTrue (list_all is_reply (attempt_in bytes).replies) =
    subst (λ text. IsTrue (list_all is_reply (attempt_in text).replies)) c.bytes.ensures c.recall_replies.ensures in
    spelled_some t e c.args.batch c.args.history.now got.0 (attempt_in bytes) c.reply_bytes.result.now is got.1 got.3
    fit c.reply_bytes.ensures
