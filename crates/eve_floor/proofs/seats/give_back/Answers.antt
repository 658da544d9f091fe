use Rattle.std.proofs.Common.{◌+◌, drop, subst, sym, arith}
use Rattle.std.specs.List.{AllZip}
use Rattle.std.proofs.lemmas.List.{length-drop}
use Rattle.std.proofs.lemmas.Slice.Zip.{AllZip-long}
use Rattle.eve_floor.specs.SharedBatches.{IsPartAt, AreFreeAt}
use Rattle.eve_floor.proofs.Zipped.{zip_at, zip_next, zip_set}
use Rattle.eve_floor.proofs.seats.give_back.Goals as goal

pub remove-part-requires : goal.remove-part-requires
remove-part-requires g c =
    let batches = c.args.crew.now.batches.now in
    let long = AllZip-long (IsPartAt c.args.crew.now.floor.now) (drop c.loop-at.at batches) c.loop-at.member.parts.items
    c.loop-at.invariant.parts in
    omega (arith, long, length-drop c.loop-at.at batches, c.loop-at-test.true, c.loop-at.member.parts.ok)

pub index_mut-requires : goal.index_mut-requires
index_mut-requires g c =
    let long = AllZip-long (AreFreeAt c.args.crew.now.floor.now) c.args.crew.now.batches.now c.loop-at.free.items
    c.loop-at.invariant.free in
    omega (arith, long, c.loop-at-test.true, c.loop-at.free.ok)

pub take_back-requires-clause-free : goal.take_back-requires-clause-free
take_back-requires-clause-free g c =
    zip_at (AreFreeAt c.args.crew.now.floor.now) c.args.crew.now.batches.now c.loop-at.free.items c.loop-at.at
    c.index-batches-at.result c.index_mut.result.now c.loop-at.invariant.free c.loop-at-test.true
    c.index-batches-at.is c.index_mut.ensures.value

pub take_back-requires-clause-part : goal.take_back-requires-clause-part
take_back-requires-clause-part g c =
    (zip_next (IsPartAt c.args.crew.now.floor.now) c.args.crew.now.batches.now c.loop-at.member.parts.items c.loop-at.at
    c.index-batches-at.result c.remove-part.result c.loop-at-test.true c.index-batches-at.is c.remove-part.ensures.value
    c.loop-at.invariant.parts).0

pub loop-at-preserved : goal.loop-at-preserved
loop-at-preserved g c =
    let was = c.loop-at.invariant in
    let batches = c.args.crew.now.batches.now in
    let Placed = IsPartAt c.args.crew.now.floor.now in
    record {
      tick = was.tick;
      free = zip_set (AreFreeAt c.args.crew.now.floor.now) batches c.loop-at.free.items c.loop-at.at
          c.index-batches-at.result c.take_back.new.free was.free c.index-batches-at.is c.take_back.ensures.free;
      parts = subst (AllZip Placed (drop (c.loop-at.at + 1) batches)) (sym c.remove-part.ensures.items)
          (zip_next Placed batches c.loop-at.member.parts.items c.loop-at.at c.index-batches-at.result
          c.remove-part.result c.loop-at-test.true c.index-batches-at.is c.remove-part.ensures.value was.parts).1;
    }
