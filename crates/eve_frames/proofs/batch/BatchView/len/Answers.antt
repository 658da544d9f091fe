use Rattle.std.proofs.Common.{◌<◌, sum, sym, ap, ◌∙◌, take_all, arith}
use Rattle.eve_frames.specs.Views.{batch_in}
use Rattle.eve_frames.proofs.BatchPlaces.{groups_of, batch_few, batch_total, sum_more, sum_more_le}
use Rattle.eve_frames.proofs.batch.BatchView.len.Goals as goal

pub overflow_add-total : goal.overflow_add-total
overflow_add-total c =
    let bytes = c.args.self.now.bytes.now in
    let there : c.loop-i.i < groups_of bytes = omega (arith, c.loop-i-test.true, c.groups-i-end.ensures) in
    let more = sum_more_le (batch_in bytes).1.sizes c.loop-i.i c.group.result there c.group.ensures in
    let few = batch_few bytes c.args.self.now.whole in
    record { fits = omega (arith, more, few, c.loop-i.invariant) }

pub loop-i-preserved : goal.loop-i-preserved
loop-i-preserved c =
    let bytes = c.args.self.now.bytes.now in
    let there : c.loop-i.i < groups_of bytes = omega (arith, c.loop-i-test.true, c.groups-i-end.ensures) in
    let more = sum_more (batch_in bytes).1.sizes c.loop-i.i c.group.result there c.group.ensures in
    omega (arith, more, c.loop-i.invariant)

pub returns : goal.returns
returns c =
    let bytes = c.args.self.now.bytes.now in
    let sizes = (batch_in bytes).1.sizes in
    c.loop-i.invariant ∙ ap sum (take_all c.loop-i.i sizes (omega (arith, c.loop-i-test.false, c.groups-i-end.ensures)))
    ∙ sym (batch_total bytes c.args.self.now.whole)
