use Rattle.std.proofs.Common.{rules}
use Rattle.eve_streams.proofs.buffered.Buffered.flush.Goals as goal

pub returns-clause-prefix : goal.returns-clause-prefix
returns-clause-prefix g c = search rules
