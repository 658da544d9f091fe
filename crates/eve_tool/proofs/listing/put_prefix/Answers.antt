use Rattle.eve_tool.specs.Lines.{line_prefix}
use Rattle.eve_tool.proofs.ListedLines.{put_four}
use Rattle.eve_tool.proofs.listing.put_prefix.Goals as goal

pub returns-clause-items : goal.returns-clause-items
unfolding line_prefix
returns-clause-items c =
    put_four _ _ _ _ _ _ _ _ _ c.put_number.ensures.items c.put.ensures.items c.put-2.ensures.items
    c.put_numbered.ensures.items
