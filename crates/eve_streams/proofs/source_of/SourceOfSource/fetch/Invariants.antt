-- A read that is interrupted gives nothing.
use Rattle.std.proofs.Common.{◌≡◌, ◌≤◌}
use Rattle.std.specs.Io.KnownBytes.{Keeps}
use Rattle.eve_streams.proofs.source_of.SourceOfSource.fetch.Given as goal

abbrev pub invariant-reads : goal.invariant-reads
invariant-reads g l = Keeps (g.R.Read.remaining l.initial.self.reader) (g.R.Read.remaining l.self.reader)
    × (l.self.failures ≡ l.initial.self.failures) × (l.self.reads_left ≤ l.initial.self.reads_left)

abbrev pub decreases-reads : goal.decreases-reads
decreases-reads g l = l.self.reads_left
