-- A write that is interrupted takes nothing.
use Rattle.std.proofs.Common.{◌≡◌}
use Rattle.std.specs.Io.KnownBytes.{Keeps}
use Rattle.eve_streams.proofs.sink_of.SinkOf.send_within.Given as goal

abbrev pub invariant-tries : goal.invariant-tries
invariant-tries g l = Keeps (g.W.Write.contents l.initial.self.writer) (g.W.Write.contents l.self.writer)
    × (l.self.failures ≡ l.initial.self.failures)
