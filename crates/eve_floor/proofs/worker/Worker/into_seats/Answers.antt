use Rattle.std.proofs.Common.{rules}
use Rattle.eve_floor.proofs.worker.Worker.into_seats.Goals as goal

pub returns-clause-seats : goal.returns-clause-seats
returns-clause-seats c = search rules
