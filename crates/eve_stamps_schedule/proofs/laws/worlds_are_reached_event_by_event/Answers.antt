use Rattle.eve_stamps_schedule.proofs.EventSteps.{reached_first, reached_next}
use Rattle.eve_stamps_schedule.proofs.laws.worlds_are_reached_event_by_event.Goals as goal

pub returns-clause-first : goal.returns-clause-first
returns-clause-first c = reached_first

pub returns-clause-next : goal.returns-clause-next
returns-clause-next c = reached_next
