use Rattle.std.proofs.Common.{arith}
use Rattle.std.proofs.lemmas.Grind.{common_steps}
use Rattle.eve_streams.proofs.sink.send_all.Goals as goal

pub returns-clause-sent : goal.returns-clause-sent
returns-clause-sent g c = grind (arith, common_steps)
