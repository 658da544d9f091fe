use Rattle.std.proofs.Common.{◌∙◌, arith}
use Rattle.std.proofs.lemmas.Slice.Zip.{AllZip-long}
use Rattle.eve_floor.specs.SharedBatches.{IsPartAt}
use Rattle.eve_floor.proofs.Zipped.{zip_at, zip_set}
use Rattle.eve_floor.proofs.work.run_member.Goals as goal

pub index_mut-part-requires : goal.index_mut-part-requires
index_mut-part-requires g c =
    let long = AllZip-long (IsPartAt c.args.crew.now.floor.now) c.args.crew.now.batches.now
    c.loop-number.member.parts.items c.loop-number.invariant.1 in
    omega (arith, long, c.loop-number-test.true, c.loop-number.member.parts.ok)

pub run_part-end-requires-clause-part : goal.run_part-end-requires-clause-part
run_part-end-requires-clause-part g c κs within =
    zip_at (IsPartAt c.args.crew.now.floor.now) c.args.crew.now.batches.now c.loop-number.member.parts.items
    c.loop-number.number c.index-batches-number.result c.index_mut-part.result.now c.loop-number.invariant.1
    c.loop-number-test.true c.index-batches-number.is c.index_mut-part.ensures.value

pub returns-in-Err : goal.returns-in-Err
returns-in-Err g c = record {
  member = (
    c.run_part-end.ensures.tick ∙ c.loop-number.invariant.0,
    zip_set (IsPartAt c.args.crew.now.floor.now) c.args.crew.now.batches.now c.loop-number.member.parts.items
        c.loop-number.number c.index-batches-number.result c.run_part-end.new.part c.loop-number.invariant.1
        c.index-batches-number.is c.run_part-end.ensures.part,
  );
}

pub loop-number-preserved : goal.loop-number-preserved
loop-number-preserved g c = (
  c.run_part-end.ensures.tick ∙ c.loop-number.invariant.0,
  zip_set (IsPartAt c.args.crew.now.floor.now) c.args.crew.now.batches.now c.loop-number.member.parts.items
      c.loop-number.number c.index-batches-number.result c.run_part-end.new.part c.loop-number.invariant.1
      c.index-batches-number.is c.run_part-end.ensures.part,
)
