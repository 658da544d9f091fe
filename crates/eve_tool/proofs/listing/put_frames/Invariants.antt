-- The lines of the frames so far were put, and nothing failed.
use Rattle.std.proofs.Common.{◌≡◌, ◌≤◌, List}
use Rattle.eve_grammar.specs.Frames.{Frame}
use Rattle.eve_grammar.specs.declared.head.Head.{Head}
use Rattle.eve_tool.specs.Listing.{HasFrames}
use Rattle.eve_tool.proofs.ListedLines.{ListsSoFar}
use Rattle.eve_tool.proofs.listing.put_frames.Given as goal

abbrev pub invariant-frames : goal.invariant-frames
invariant-frames g l =
    ((h : Head) (frames : List Frame) → HasFrames l.bytes h frames
    → ListsSoFar l.listing (g.O.Sink.written l.initial.out) (g.O.Sink.written l.out) l.initial.line.items l.line.items
    l.bytes l.at l.number h frames)
    × (l.number ≤ l.at)
    × (g.O.Sink.failures l.out ≡ g.O.Sink.failures l.initial.out)
