use Rattle.eve_stamps_schedule.proofs.Schedules.{serial, gathered, complete}
use Rattle.eve_stamps_schedule.proofs.RecordLists.{listed_reached}
use Rattle.eve_stamps_schedule.proofs.laws.every_schedule_is_serial.Goals as goal

pub returns-clause-serial : goal.returns-clause-serial
returns-clause-serial c = serial

pub returns-clause-gathered : goal.returns-clause-gathered
returns-clause-gathered c = gathered

pub returns-clause-complete : goal.returns-clause-complete
returns-clause-complete c = complete

pub returns-clause-listed : goal.returns-clause-listed
returns-clause-listed c = listed_reached
