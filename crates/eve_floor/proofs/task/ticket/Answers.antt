use Rattle.std.proofs.Common.{rules}
use Rattle.eve_floor.proofs.task.ticket.Goals as goal

pub returns-in-Some-clause-drawn : goal.returns-in-Some-clause-drawn
returns-in-Some-clause-drawn g c = c.in-Some.ensures.drawn

pub returns-in-None-clause-spent : goal.returns-in-None-clause-spent
returns-in-None-clause-spent g c = search rules
