-- What stands and what is still to come are together what they were.
use Rattle.std.proofs.Common.{◌≡◌, ◌-◌, ◌++◌, length}
use Rattle.eve_lines.specs.declared.line.TheConstants.{LINE_ROOM}
use Rattle.eve_lines.specs.Rest.{words_left}
use Rattle.eve_lines.proofs.frame.FrameWords.fill.Given as goal

abbrev pub invariant-parts : goal.invariant-parts
invariant-parts l = l.line.items ++ words_left l.self ≡ l.initial.line.items ++ words_left l.initial.self

abbrev pub decreases-parts : goal.decreases-parts
decreases-parts l = LINE_ROOM - length l.line.items
