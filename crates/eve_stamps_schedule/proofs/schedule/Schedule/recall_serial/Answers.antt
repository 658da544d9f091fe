use Rattle.std.proofs.Common.{IsTrue, subst}
use Rattle.std.specs.Prelude.{IsPermutation}
use Rattle.eve_stamps_schedule.specs.World.{records_at, records_below}
use Rattle.eve_stamps_schedule.specs.Serial.{IsSerialWorld, AreNotedBy, is_done, IsComplete}
use Rattle.eve_stamps_schedule.specs.Schedule.{Schedule, plan_of, world_of}
use Rattle.eve_stamps_schedule.specs.Scheduled.{schedule_of}
use Rattle.eve_stamps_schedule.proofs.Schedules.{serial, gathered, complete}
use Rattle.eve_stamps_schedule.proofs.RecordLists.{listed_reached}
use Rattle.eve_stamps_schedule.proofs.schedule.Schedule.recall_serial.Goals as goal

pub returns-clause-serial : goal.returns-clause-serial
returns-clause-serial c =
    let s : Schedule = schedule_of c.self.inside in
    subst (λ (t : Schedule). IsSerialWorld (plan_of t) (world_of t)) c.self.view_is
    (serial (plan_of s) (world_of s) c.self.invariant.reached)

pub returns-clause-gathered : goal.returns-clause-gathered
returns-clause-gathered c =
    let s : Schedule = schedule_of c.self.inside in
    subst (λ (t : Schedule). IsPermutation (records_below (world_of t) (plan_of t).workers) (world_of t).applied)
    c.self.view_is (gathered (plan_of s) (world_of s) c.self.invariant.reached)

pub returns-clause-listed : goal.returns-clause-listed
returns-clause-listed c v =
    let s : Schedule = schedule_of c.self.inside in
    subst (λ (t : Schedule). AreNotedBy v 0 (records_at (world_of t) v)) c.self.view_is
    (listed_reached (plan_of s) (world_of s) c.self.invariant.reached v)

pub returns-clause-complete : goal.returns-clause-complete
returns-clause-complete c =
    let s : Schedule = schedule_of c.self.inside in
    subst (λ (t : Schedule). IsTrue (is_done (plan_of t) (world_of t)) → IsComplete (plan_of t) (world_of t))
    c.self.view_is (λ done. complete (plan_of s) (world_of s) c.self.invariant.reached done)
