use Rattle.std.proofs.Common.{◌≡◌, ℕ, ◌+◌, ◌-◌, length, take, slice_get, sym, ap, ◌∙◌, arith}
use Rattle.std.specs.List.{sum_by}
use Rattle.eve_grammar.specs.Trace.{Batch}
use Rattle.eve_grammar.specs.Spelling.{batches_at}
use Rattle.eve_frames.specs.Decoded.{batch_decoded}
use Rattle.eve_evidence_outcomes.proofs.RequestCounts.{sum_more}
use Rattle.eve_evidence_outcomes.proofs.DecidedViews.{batch_there}
use Rattle.eve_evidence_outcomes.proofs.summary.requests_in_all.Goals as goal

pub loop-i-preserved : goal.loop-i-preserved
loop-i-preserved c =
    let t = c.args.trace.now in
    let i = c.loop-i.i in
    let b : ℕ × (ℕ × Batch) = (c.batch-batch.result.offset, batch_decoded c.batch-batch.result) in
    let back : i + 1 - 1 ≡ i = omega arith in
    let there = batch_there t i b (ap (slice_get (batches_at t)) (sym back) ∙ c.batch-batch.ensures.says) in
    record {
      count = ap (λ (k : ℕ). k + c.requests_in-count.result) c.loop-i.invariant.count
          ∙ ap (λ (k : ℕ). sum_by (λ (x : Batch). length x.requests) (take i t.batches) + k)
          c.requests_in-count.ensures.count
          ∙ sum_more (λ (x : Batch). length x.requests) t.batches i b.1.1 there;
      few = omega (arith, c.loop-i.invariant.few, c.requests_in-count.ensures.few);
    }
