use Rattle.std.proofs.Common.{ℕ, ◌==◌, ◌∙◌}
use Rattle.eve_grammar.specs.Trace.{Batch}
use Rattle.eve_frames.specs.Views.{attempt_in, batch_in}
use Rattle.eve_history.proofs.Lookups.{named_batch, named_count}
use Rattle.eve_history.proofs.certificate.has_every_index.Goals as goal

pub returns : goal.returns
returns c =
    let t = c.args.trace.now in
    let a = attempt_in c.args.attempt.now.bytes.now in
    let b : ℕ × (ℕ × Batch) = (c.batch.result.offset, batch_in c.batch.result.bytes.now) in
    (λ i. c.len.ensures.certificate i == c.len-2.ensures i)
    ∙ named_count t a b.1.1 (named_batch t a.seq c.seq.result b c.seq.ensures c.batch.ensures.says)
