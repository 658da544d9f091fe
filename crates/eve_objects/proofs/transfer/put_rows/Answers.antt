use Rattle.std.proofs.Common.{◌∙◌}
use Rattle.std.specs.List.{enumerate_from, flat_map}
use Rattle.eve_frames.specs.Views.{transfer_in}
use Rattle.eve_objects.specs.FrameObjects.{row_item}
use Rattle.eve_objects.proofs.Items.{one_numbered_more}
use Rattle.eve_objects.proofs.transfer.put_rows.Goals as goal

pub loop-i-preserved : goal.loop-i-preserved
loop-i-preserved c =
    let rows = (transfer_in c.args.transfer.now.bytes.now).rows in (
      one_numbered_more row_item c.loop-i.writer.tokens c.put_row_item.new.writer.tokens c.args.writer.now.tokens
          (flat_map row_item (enumerate_from 0 rows)) rows c.loop-i.i c.row.result c.row.ensures
          c.in_ok-put_row_item.ensures.tokens c.loop-i.invariant.0,
      c.in_ok-put_row_item.ensures.before ∙ c.loop-i.invariant.1,
    )
