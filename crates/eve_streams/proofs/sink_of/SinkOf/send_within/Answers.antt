use Rattle.std.proofs.Common.{rules}
use Rattle.eve_streams.proofs.sink_of.SinkOf.send_within.Goals as goal

pub returns-clause-takes : goal.returns-clause-takes
returns-clause-takes g c = search rules
