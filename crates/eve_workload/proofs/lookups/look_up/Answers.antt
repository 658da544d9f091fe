use Rattle.std.proofs.Common.{arith}
use Rattle.std.proofs.lemmas.List.{take_all}
use Rattle.eve_workload.proofs.lookups.look_up.Goals as goal

pub returns : goal.returns
returns c = cc (take_all c.loop-request.request-index c.args.requests.now (omega arith))
