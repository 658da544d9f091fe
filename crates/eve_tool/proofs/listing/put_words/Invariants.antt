-- Of the words some were put, and the rest is still to come; nothing failed.
use Rattle.std.proofs.Common.{◌≡◌, length}
use Rattle.eve_lines.specs.Rest.{words_left}
use Rattle.eve_tool.proofs.LinesPut.{PutsUpTo}
use Rattle.eve_tool.proofs.listing.put_words.Given as goal

abbrev pub invariant-parts : goal.invariant-parts
invariant-parts g l =
    PutsUpTo (g.O.Sink.written l.initial.out) (g.O.Sink.written l.out) l.initial.line.items l.line.items
    (words_left l.initial.words) (words_left l.words)
    × (g.O.Sink.failures l.out ≡ g.O.Sink.failures l.initial.out)

abbrev pub decreases-parts : goal.decreases-parts
decreases-parts g l = length (words_left l.words)
