use Rattle.std.proofs.Common.{◌≡◌, ◌+◌, take, subst, sym, arith}
use Rattle.std.specs.List.{AllZip}
use Rattle.std.proofs.lemmas.Slice.Zip.{AllZip-long}
use Rattle.eve_floor.specs.SharedBatches.{IsPartAt, AreFreshAt}
use Rattle.eve_floor.proofs.Zipped.{zip_at, zip_more, zip_set}
use Rattle.eve_floor.proofs.seats.seat.Goals as goal

pub index_mut-requires : goal.index_mut-requires
index_mut-requires g c =
    let long = AllZip-long (AreFreshAt c.args.crew.now.floor.now) c.args.crew.now.batches.now c.loop-at.free.items
    c.loop-at.invariant.free in
    omega (arith, long, c.loop-at-test.true, c.loop-at.free.ok)

pub own_seats-part-requires : goal.own_seats-part-requires
own_seats-part-requires g c = record {
  free = zip_at (AreFreshAt c.args.crew.now.floor.now) c.args.crew.now.batches.now c.loop-at.free.items
      c.loop-at.at c.index-batches-at.result c.index_mut.result.now c.loop-at.invariant.free c.loop-at-test.true
      c.index-batches-at.is c.index_mut.ensures.value;
}

pub loop-at-preserved : goal.loop-at-preserved
loop-at-preserved g c =
    let was = c.loop-at.invariant in
    let batches = c.args.crew.now.batches.now in
    let Placed = IsPartAt c.args.crew.now.floor.now in
    record {
      tick = was.tick;
      many = omega (arith, c.push_reserved.ensures.len, was.many);
      room = omega (arith, c.push_reserved.ensures.capacity, was.room);
      free = zip_set (AreFreshAt c.args.crew.now.floor.now) batches c.loop-at.free.items c.loop-at.at
          c.index-batches-at.result c.own_seats-part.new.free was.free c.index-batches-at.is
          c.own_seats-part.ensures.free;
      parts = subst (AllZip Placed (take (c.loop-at.at + 1) batches)) (sym c.push_reserved.ensures.items)
          (zip_more Placed batches c.loop-at.member.parts.items c.loop-at.at c.index-batches-at.result
          c.own_seats-part.result c.loop-at-test.true c.index-batches-at.is was.parts c.own_seats-part.ensures.own);
    }
