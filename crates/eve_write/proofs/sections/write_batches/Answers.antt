use Rattle.std.proofs.Common.{◌+◌, map, arith, ap, subst, length, ◌≤◌}
use Rattle.std.specs.List.{flat_map, enumerate_from}
use Rattle.std.proofs.lemmas.List.{take_all, length-map}
use Rattle.std.proofs.lemmas.List.FromFn.{length-enumerate_from}
use Rattle.eve_grammar.specs.Spelling.{batch_text}
use Rattle.eve_write.specs.Data.{batch}
use Rattle.eve_write.specs.Writes.{Wrote}
use Rattle.eve_write.proofs.JoinedWrites.{Writes-at_err}
use Rattle.eve_write.proofs.NumberedItems.{Wrote-numbered, Stopped-numbered}
use Rattle.eve_write.proofs.sections.write_batches.Goals as goal

pub returns-in_err-write_batch : goal.returns-in_err-write_batch
returns-in_err-write_batch g c =
    Writes-at_err {S = g.row.W.Denot} g.W.Sink.written g.W.Sink.failures _ _ _ c.from_residual.result
    c.from_residual.ensures.0
    (Stopped-numbered {S = g.row.W.Denot} batch_text batch 1 (c.loop-i.i + 1) c.loop-i.i c.args.batches.now
    c.index-batches-i.result c.loop-i-test.true c.index-batches-i.is (omega arith) c.loop-i.invariant
    c.in_err-write_batch.ensures)

pub loop-i-preserved : goal.loop-i-preserved
loop-i-preserved g c =
    Wrote-numbered {S = g.row.W.Denot} batch_text batch 1 (c.loop-i.i + 1) c.loop-i.i c.args.batches.now
    c.index-batches-i.result c.loop-i-test.true c.index-batches-i.is (omega arith) c.loop-i.invariant
    c.in_ok-write_batch.ensures

pub returns : goal.returns
returns g c =
    let all = enumerate_from 1 (map batch c.args.batches.now) in
    let done : length all ≤ c.loop-i.i =
    omega (
      arith,
      c.loop-i-test.false,
      length-enumerate_from 1 (map batch c.args.batches.now),
      length-map c.args.batches.now batch,
    ) in
    subst (Wrote {S = g.row.W.Denot} g.W.Sink.written g.W.Sink.failures c.args.out.now c.loop-i.out)
    (ap (flat_map batch_text) (take_all c.loop-i.i all done)) c.loop-i.invariant
