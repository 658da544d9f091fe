use Rattle.std.proofs.Common.{◌≡◌, ℕ, List, length, take, ap, ◌∙◌, arith, length-append}
use Rattle.std.proofs.lemmas.List.{length-map}
use Rattle.std.specs.List.{flat_map}
use Rattle.eve_grammar.specs.Trace.{Batch}
use Rattle.eve_grammar.specs.Spelling.{batches_at}
use Rattle.eve_grammar.specs.declared.head.Head.{Head}
use Rattle.eve_frames.specs.Views.{batch_in}
use Rattle.eve_history.specs.inner.Repeats.{arrival, arrivals_at}
use Rattle.eve_history.specs.declared.repeats.Arrival.{Arrival}
use Rattle.eve_history.proofs.OrderLaws.{batch_there}
use Rattle.eve_history.proofs.AllRequests.{few_requests, arrivals_more, all_arrivals}
use Rattle.eve_history.proofs.repeats.request_count.Goals as goal

pub overflow_add-count : goal.overflow_add-count
overflow_add-count c =
    let t = c.args.trace.now in
    let decoded : ℕ × (ℕ × Batch) = (c.batch.result.offset, batch_in c.batch.result.bytes.now) in
    let few = few_requests t c.loop-i.i decoded c.recall_limits.ensures
    (batch_there (batches_at t) c.loop-i.i decoded c.batch.ensures.says) in
    omega (arith, few, c.loop-i.invariant.1, c.len-count.ensures)

pub loop-i-preserved : goal.loop-i-preserved
loop-i-preserved c =
    let t = c.args.trace.now in
    let decoded : ℕ × (ℕ × Batch) = (c.batch.result.offset, batch_in c.batch.result.bytes.now) in
    let at = batch_there (batches_at t) c.loop-i.i decoded c.batch.ensures.says in
    let few = few_requests t c.loop-i.i decoded c.recall_limits.ensures at in
    let one : length (arrivals_at decoded) ≡ length decoded.1.1.requests =
    length-map decoded.1.1.requests (arrival decoded.1.0) in
    let prefix : List Arrival = flat_map arrivals_at (take c.loop-i.i (batches_at t)) in
    let more = ap length (arrivals_more t c.loop-i.i decoded at) ∙ length-append prefix (arrivals_at decoded) in (
      omega (arith, more, one, c.loop-i.invariant.0, c.len-count.ensures),
      omega (arith, few, c.loop-i.invariant.1, c.len-count.ensures),
    )

pub returns : goal.returns
returns c =
    let t = c.args.trace.now in
    let count : c.head-i-end.result.batches ≡ length t.batches =
    ap (λ (h : Head). h.batches) c.head-i-end.ensures in
    c.loop-i.invariant.0 ∙ ap length (all_arrivals t c.loop-i.i (omega arith))
