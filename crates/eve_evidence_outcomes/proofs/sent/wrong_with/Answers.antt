use Rattle.std.proofs.Common.{ℕ, ◌-◌, sym, ◌∙◌}
use Rattle.std.proofs.lemmas.Bool.{false≢true}
use Rattle.eve_grammar.specs.Trace.{Batch, Sent}
use Rattle.eve_frames.specs.Decoded.{batch_decoded, sent_decoded}
use Rattle.eve_evidence_outcomes.proofs.BatchRequests.{batch_right}
use Rattle.eve_evidence_outcomes.proofs.WrongReplies.{no_request, not_committed, is_replied, other_reply}
use Rattle.eve_evidence_outcomes.proofs.sent.wrong_with.Goals as goal

pub request_with-requires : goal.request_with-requires
request_with-requires c =
    let b : ℕ × (ℕ × Batch) = (c.batch-batch.result.offset, batch_decoded c.batch-batch.result) in
    batch_right c.args.trace.now (c.seq-seq.result - 1) b c.recall_limits.ensures c.batch-batch.ensures.says

pub returns-in_default-clause-told : goal.returns-in_default-clause-told
returns-in_default-clause-told c =
    let s : Sent = sent_decoded c.args.sent.now in
    let b : ℕ × (ℕ × Batch) = (c.batch-batch.result.offset, batch_decoded c.batch-batch.result) in
    no_request c.args.trace.now s c.seq-seq.result c.seq-seq.ensures c.told_sent-told.result c.told_sent-told.ensures b
    c.batch-batch.ensures.says c.in_default.ensures.none

pub returns-in_default-committed_attempt-clause-told : goal.returns-in_default-committed_attempt-clause-told
returns-in_default-committed_attempt-clause-told c =
    let t = c.args.trace.now in
    let s : Sent = sent_decoded c.args.sent.now in
    let b : ℕ × (ℕ × Batch) = (c.batch-batch.result.offset, batch_decoded c.batch-batch.result) in
    not_committed t s c.seq-seq.result c.seq-seq.ensures c.told_sent-told.result c.told_sent-told.ensures b
    c.batch-batch.ensures.says c.in-Some.request c.in-Some.ensures.found c.args.history.now c.requires.history
    c.given_by-given.result c.given_by-given.ensures
    (c.in_default-committed_attempt.ensures.none t s.replica c.requires.history)

pub returns-then-has_reply-clause-none : goal.returns-then-has_reply-clause-none
returns-then-has_reply-clause-none c =
    let t = c.args.trace.now in
    let s : Sent = sent_decoded c.args.sent.now in
    let b : ℕ × (ℕ × Batch) = (c.batch-batch.result.offset, batch_decoded c.batch-batch.result) in
    is_replied t s c.seq-seq.result c.seq-seq.ensures c.told_sent-told.result c.told_sent-told.ensures b
    c.batch-batch.ensures.says c.in-Some.request c.in-Some.ensures.found c.in-Some-committed_attempt.attempt
    (c.in-Some-committed_attempt.ensures.some t s.replica c.requires.history)
    (c.has_reply.ensures.0 c.if-has_reply.true)

pub returns-clause-told : goal.returns-clause-told
returns-clause-told c =
    let t = c.args.trace.now in
    let s : Sent = sent_decoded c.args.sent.now in
    let b : ℕ × (ℕ × Batch) = (c.batch-batch.result.offset, batch_decoded c.batch-batch.result) in
    other_reply t s c.seq-seq.result c.seq-seq.ensures c.told_sent-told.result c.told_sent-told.ensures b
    c.batch-batch.ensures.says c.in-Some.request c.in-Some.ensures.found c.in-Some-committed_attempt.attempt
    (c.in-Some-committed_attempt.ensures.some t s.replica c.requires.history) c.args.history.now c.requires.history
    c.given_by-given.result c.given_by-given.ensures c.reply_of-due.result c.in-Some.ensures.batch
    c.reply_of-due.ensures
    (λ has. false≢true (sym c.if-has_reply.false ∙ c.has_reply.ensures.1 has))
