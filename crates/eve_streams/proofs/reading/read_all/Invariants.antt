-- What is read so far is what the source gave, and each turn but the last reads some.
use Rattle.std.proofs.Common.{◌≡◌, ◌-◌, ◌≤◌, vec_len}
use Rattle.std.specs.Io.KnownBytes.{Consumes}
use Rattle.eve_streams.proofs.reading.read_all.Given as goal

abbrev pub invariant-chunks : goal.invariant-chunks
invariant-chunks g l = (vec_len l.bytes ≤ l.most) × Consumes (g.S.Source.remaining l.initial.source)
    (g.S.Source.remaining l.source) l.bytes.items
    × (g.S.Source.failures l.source ≡ g.S.Source.failures l.initial.source)

abbrev pub decreases-chunks : goal.decreases-chunks
decreases-chunks g l = l.most - vec_len l.bytes
