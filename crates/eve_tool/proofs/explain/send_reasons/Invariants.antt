-- The lines up to one were sent, and nothing failed.
use Rattle.std.proofs.Common.{◌≡◌}
use Rattle.std.specs.Io.KnownBytes.{Appends}
use Rattle.eve_tool.specs.Explain.{lines_behind}
use Rattle.eve_tool.proofs.ExplainedLines.{text_before}
use Rattle.eve_tool.proofs.explain.send_reasons.Given as goal

abbrev pub invariant-lines : goal.invariant-lines
invariant-lines g l =
    Appends (g.O.Sink.written l.initial.out) (g.O.Sink.written l.out) (text_before l.i (lines_behind l.explained))
    × (g.O.Sink.failures l.out ≡ g.O.Sink.failures l.initial.out)
