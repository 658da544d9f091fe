use Rattle.eve_streams.proofs.JoinedSends.{AppendsPrefix-more}
use Rattle.eve_tool.specs.Listing.{line_of_view}
use Rattle.eve_tool.specs.declared.listing.Listing.TheVariants.{Short}
use Rattle.eve_tool.proofs.ListedLines.{at_any_err, short-put}
use Rattle.eve_tool.proofs.listing.put_short.Goals as goal

pub returns-in_err-make_room-clause-prefix : goal.returns-in_err-make_room-clause-prefix
returns-in_err-make_room-clause-prefix g c =
    at_any_err c.from_residual.result
    (AppendsPrefix-more _ _ c.args.line.now.items (line_of_view Short c.args.frame.now.number c.args.frame.now.view)
    c.in_err-make_room.ensures.prefix)

pub returns-clause-puts : goal.returns-clause-puts
returns-clause-puts g c =
    short-put _ _ _ _ _ _ _ c.in_ok-make_room.ensures.puts c.put_frame_prefix.ensures.items
    c.put_line_feed.ensures.items
