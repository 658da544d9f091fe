use Rattle.std.proofs.Common.{rules}
use Rattle.eve_floor.proofs.executing.flush.Goals as goal

pub returns-in-Err-Full-clause-flushes : goal.returns-in-Err-Full-clause-flushes
returns-in-Err-Full-clause-flushes g c = search rules
