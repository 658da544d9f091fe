use Rattle.std.proofs.Common.{rules}
use Rattle.eve_streams.proofs.source_of.SourceOf.within.Goals as goal

pub returns-clause-reads : goal.returns-clause-reads
returns-clause-reads g c = search rules
