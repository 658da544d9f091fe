use Rattle.std.proofs.Common.{◌∙◌, ◌++◌, ap}
use Rattle.std.specs.List.{flat_map}
use Rattle.eve_frames.specs.Views.{batch_in}
use Rattle.eve_objects.specs.FrameObjects.{index_item}
use Rattle.eve_objects.proofs.Items.{one_more}
use Rattle.eve_objects.proofs.batch.put_sizes.Goals as goal

pub loop-i-preserved : goal.loop-i-preserved
loop-i-preserved c =
    let sizes = (batch_in c.args.batch.now.bytes.now).1.sizes in (
      one_more index_item c.loop-i.writer.tokens c.u64.new.self.tokens c.args.writer.now.tokens
          (flat_map index_item sizes) sizes c.loop-i.i c.group.result c.group.ensures
          (c.in_ok-u64.ensures.ok ∙ ap (λ n. c.loop-i.writer.tokens ++ index_item n) c.from.ensures)
          c.loop-i.invariant.0,
      c.in_ok-u64.ensures.room.0 ∙ c.loop-i.invariant.1,
    )
