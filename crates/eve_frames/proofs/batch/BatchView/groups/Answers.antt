use Rattle.std.proofs.Common.{◌-◌, length, drop, length-drop, arith}
use Rattle.std.proofs.lemmas.List.{length-take}
use Rattle.eve_frames.proofs.BatchPlaces.{batch_long}
use Rattle.eve_frames.proofs.batch.BatchView.groups.Goals as goal

pub slice_bounds-read_u16-count : goal.slice_bounds-read_u16-count
slice_bounds-read_u16-count c = let long = batch_long c.args.self.now.bytes.now c.args.self.now.whole in omega (arith)

pub slice_bounds-read_u16-start : goal.slice_bounds-read_u16-start
slice_bounds-read_u16-start c = let long = batch_long c.args.self.now.bytes.now c.args.self.now.whole in omega (arith)

pub read_u16-requires : goal.read_u16-requires
read_u16-requires c = let long = batch_long c.args.self.now.bytes.now c.args.self.now.whole in
    omega (
      arith,
      length-take (length c.args.self.now.bytes.now - 9) (drop 9 c.args.self.now.bytes.now),
      length-drop 9 c.args.self.now.bytes.now,
    )
