use Rattle.std.proofs.Common.{◌≡◌, ℕ, ◌++◌, List, length, ap, sym, ◌∙◌, arith}
use Rattle.eve_grammar.specs.Trace.{Batch}
use Rattle.eve_grammar.specs.Spelling.{batches_at}
use Rattle.eve_grammar.specs.declared.head.Head.{Head}
use Rattle.eve_frames.specs.Views.{batch_in}
use Rattle.eve_history.specs.inner.Repeats.{arrivals_at}
use Rattle.eve_history.specs.declared.repeats.Arrival.{Arrival}
use Rattle.eve_history.proofs.OrderLaws.{batch_there}
use Rattle.eve_history.proofs.AllRequests.{arrivals_more, all_arrivals}
use Rattle.eve_history.proofs.repeats.arrivals_in.Goals as goal

pub loop-i-preserved : goal.loop-i-preserved
loop-i-preserved c =
    let t = c.args.trace.now in
    let decoded : ℕ × (ℕ × Batch) = (c.batch.result.offset, batch_in c.batch.result.bytes.now) in
    c.in_ok-note.ensures
    ∙ ap (λ (xs : List Arrival). xs ++ arrivals_at decoded) c.loop-i.invariant
    ∙ sym (arrivals_more t c.loop-i.i decoded (batch_there (batches_at t) c.loop-i.i decoded c.batch.ensures.says))

pub returns : goal.returns
returns c =
    let t = c.args.trace.now in
    let count : c.head-i-end.result.batches ≡ length t.batches =
    ap (λ (h : Head). h.batches) c.head-i-end.ensures in
    c.loop-i.invariant ∙ all_arrivals t c.loop-i.i (omega arith)
