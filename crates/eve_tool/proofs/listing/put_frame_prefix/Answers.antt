use Rattle.eve_tool.proofs.ListedLines.{prefix_put}
use Rattle.eve_tool.proofs.listing.put_frame_prefix.Goals as goal

pub returns-clause-items : goal.returns-clause-items
returns-clause-items c =
    prefix_put _ _ _ _ _ c.args.frame.now c.put_prefix.ensures.items c.offset.ensures c.kind_name.ensures
    c.body_len.ensures
