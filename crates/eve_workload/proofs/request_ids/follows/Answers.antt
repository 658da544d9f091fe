use Rattle.std.proofs.Common.{rules}
use Rattle.eve_workload.proofs.request_ids.follows.Goals as goal

pub returns-in-Some : goal.returns-in-Some
returns-in-Some c = search rules
