-- `send_prefix` ends, since each turn sends some bytes, and what is sent is in the sink.
use Rattle.std.proofs.Common.{◌≡◌, ◌-◌, ◌≤◌, length, take}
use Rattle.std.specs.Io.KnownBytes.{Appends}
use Rattle.eve_streams.proofs.sink.send_prefix.Given as goal

abbrev pub invariant-rest : goal.invariant-rest
invariant-rest g l = (l.sent ≤ length l.bytes) × Appends (g.S.Sink.written l.initial.sink) (g.S.Sink.written l.sink)
    (take l.sent l.bytes) × (g.S.Sink.failures l.sink ≡ g.S.Sink.failures l.initial.sink)

abbrev pub decreases-rest : goal.decreases-rest
decreases-rest g l = length l.bytes - l.sent
