use Rattle.std.proofs.Common.{◌≡◌, ℕ, ◌≤◌, map, sym, subst, ap, ◌∙◌}
use Rattle.eve_grammar.specs.Trace.{Sent, request_id}
use Rattle.eve_frames.specs.Views.{sent_in}
use Rattle.eve_history.specs.Section.{batch_at}
use Rattle.eve_agree.specs.inner.KeptRequests.{AreSpelled, kept_ids, replies_at}
use Rattle.eve_agree.proofs.AnsweredRequests.{replied_from, answer_from}
use Rattle.eve_agree.proofs.RepliesSent.{possible_of}
use Rattle.eve_agree.proofs.batch_replies.BatchReplies.have.Goals as goal

pub returns-clause-replied : goal.returns-clause-replied
returns-clause-replied c =
    let t = c.args.trace.now in
    let s : Sent = sent_in c.args.sent.now.bytes.now in
    let now = c.turn_to.new.self in
    let of = c.turn_to.ensures.new in
    let possible = possible_of t s c.requires.fits in
    let one : 1 ≤ now.batch = subst (λ (n : ℕ). 1 ≤ n) (sym c.turn_to.ensures.batch) possible.one in
    let spelled : AreSpelled (replies_at t s.replica s.seq) now.replies.now =
    subst (λ (n : ℕ). AreSpelled (replies_at t s.replica n) now.replies.now) c.turn_to.ensures.batch
    (subst (λ (e : ℕ). AreSpelled (replies_at t e now.batch) now.replies.now) c.turn_to.ensures.replica
    (of.replies one)) in
    let ids : kept_ids now.request_ids ≡ map request_id (batch_at t s.seq).requests =
    of.request_ids.request_ids (subst (λ (n : ℕ). 1 ≤ n) (sym of.batch) one)
    ∙ ap (λ (n : ℕ). map request_id (batch_at t n).requests) (of.batch ∙ c.turn_to.ensures.batch) in (
      λ found. let answer = c.find.ensures.answer.0 found in replied_from t s now.replies.now
          (kept_ids now.request_ids) answer.0 spelled ids possible.reply answer.1,
      λ replied. c.find.ensures.answer.1
          (answer_from t s now.replies.now (kept_ids now.request_ids) spelled ids replied),
    )
