use Rattle.std.proofs.Common.{◌≡◌, ℕ, length, ap, arith}
use Rattle.eve_grammar.specs.Trace.{Batch}
use Rattle.eve_grammar.specs.Spelling.{batches_at}
use Rattle.eve_grammar.specs.declared.head.Head.{Head}
use Rattle.eve_frames.specs.Views.{batch_in}
use Rattle.eve_history.proofs.OrderLaws.{batch_there}
use Rattle.eve_history.specs.inner.GreatestNumbers.{greatest_of}
use Rattle.eve_history.proofs.GreatestNumbers.{risen_start, risen_more, risen_apart}
use Rattle.eve_history.proofs.order.numbers_rise.Goals as goal

pub loop-n-init : goal.loop-n-init
loop-n-init c = risen_start c.args.trace.now (greatest_of c.in_ok-greatest.greatest)

pub loop-n-preserved : goal.loop-n-preserved
loop-n-preserved c =
    let t = c.args.trace.now in
    let decoded : ℕ × (ℕ × Batch) = (c.batch-batch.result.offset, batch_in c.batch-batch.result.bytes.now) in
    risen_more t c.loop-n.n (greatest_of c.loop-n.greatest) (greatest_of c.are_above.new.greatest) decoded
    c.loop-n.invariant
    (batch_there (batches_at t) c.loop-n.n decoded c.batch-batch.ensures.says)
    (c.in_ok-are_above.ensures.above c.if-not-branch.false)

pub returns-clause-apart : goal.returns-clause-apart
returns-clause-apart c = λ _.
    let t = c.args.trace.now in
    let count : c.head-n-end.result.batches ≡ length t.batches =
    ap (λ (h : Head). h.batches) c.head-n-end.ensures in
    risen_apart t c.loop-n.n (greatest_of c.loop-n.greatest) c.loop-n.invariant (omega arith)
