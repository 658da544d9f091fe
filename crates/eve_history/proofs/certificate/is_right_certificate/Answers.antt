use Rattle.std.proofs.Common.{◌≡◌, ℕ, length, ap, ◌∙◌}
use Rattle.eve_grammar.specs.Trace.{Batch}
use Rattle.eve_frames.specs.Views.{attempt_in, batch_in}
use Rattle.eve_grammar.specs.Certificate.{is_certificate}
use Rattle.eve_history.specs.Section.{batch_at}
use Rattle.eve_history.proofs.Lookups.{named_batch, batch_fits, named_certificate}
use Rattle.eve_history.proofs.certificate.is_right_certificate.Goals as goal

pub is_certificate-requires-clause-whole : goal.is_certificate-requires-clause-whole
is_certificate-requires-clause-whole c =
    let b : ℕ × (ℕ × Batch) = (c.batch-batch.result.offset, batch_in c.batch-batch.result.bytes.now) in
    batch_fits c.args.trace.now c.seq.result b c.recall_limits.ensures c.batch-batch.ensures.says

pub is_certificate-requires-clause-count : goal.is_certificate-requires-clause-count
is_certificate-requires-clause-count c =
    let t = c.args.trace.now in
    let a = attempt_in c.args.attempt.now.bytes.now in
    let b : ℕ × (ℕ × Batch) = (c.batch-batch.result.offset, batch_in c.batch-batch.result.bytes.now) in
    let batch : batch_at t a.seq ≡ b.1.1 =
    named_batch t a.seq c.seq.result b c.seq.ensures c.batch-batch.ensures.says in
    ap length c.requires.order ∙ c.requires.count ∙ ap (λ (x : Batch). length x.requests) batch

pub returns : goal.returns
returns c =
    let t = c.args.trace.now in
    let a = attempt_in c.args.attempt.now.bytes.now in
    let b : ℕ × (ℕ × Batch) = (c.batch-batch.result.offset, batch_in c.batch-batch.result.bytes.now) in
    c.is_certificate.ensures
    ∙ (λ i. is_certificate b.1.1.sizes (length b.1.1.requests) (c.is_serial.ensures i) (c.requires.order i))
    ∙ named_certificate t a b.1.1 (named_batch t a.seq c.seq.result b c.seq.ensures c.batch-batch.ensures.says)
