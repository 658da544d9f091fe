-- How a schedule is held.
use Rattle.std.specs.Prelude.{◌≡◌, ℕ, ◌<◌, true, List, map, length, slice_index_or, Option, None}
use Rattle.eve_stamps.specs.declared.limits.TheConstants.{MOST_PLACES, STRIPES}
use Rattle.eve_stamps.specs.Stripes.{is_above}
use Rattle.eve_write.specs.Data.{batch}
use Rattle.eve_stamps_schedule.specs.declared.schedule.Schedule.TheInside.{Inside}
use Rattle.eve_stamps_schedule.specs.declared.stage.Stage.{Stage}
use Rattle.eve_stamps_schedule.specs.declared.stage.Stage.TheVariants as at
use Rattle.eve_stamps_schedule.specs.World.{noted_count}
use Rattle.eve_stamps_schedule.specs.Events.{is_owner}
use Rattle.eve_stamps_schedule.specs.Serial.{IsReachedWorld}
use Rattle.eve_stamps_schedule.specs.Schedule.{Schedule, requests_of_batch, stripe_at, base_of, plan_of, world_of}
use Rattle.eve_stamps_schedule.specs.AppliedRequests.{HaveTheirRows}

abbrev pub schedule_of : Inside → Schedule
schedule_of s = record {
  names = s.names.now.items;
  sizes = (batch s.batch.now).sizes;
  requests = requests_of_batch (batch s.batch.now);
  stripes = s.stripes.items;
  owners = s.owners.items;
  claimed = s.claimed;
  counter = s.counter;
  stages = s.stages.items;
  noted = map (λ v. v.items) s.noted.items;
  applied = s.applied.items;
}

-- A stripe of this owner and with this greatest tick: what the counter has is above it, and so is the tick of a worker
-- that owns it.
pub record IsTimely (count : ℕ) (owner : Option ℕ) (stages : List Stage) (greatest : Option ℕ) : Type 0 where
  pub counter : is_above count greatest ≡ true
  pub owned : (v index tick : ℕ) → slice_index_or stages v at.Idle ≡ at.Ticked index tick → is_owner v owner ≡ true
      → is_above tick greatest ≡ true

-- `count` records are noted, and the world is reached
pub record IsHeldSchedule (s : Schedule) (count : ℕ) : Type 0 where
  pub few : length s.requests < MOST_PLACES
  pub stripes : length s.stripes ≡ STRIPES
  pub owners : length s.owners ≡ STRIPES
  pub noted : length s.noted ≡ length s.stages
  pub counted : count ≡ noted_count (world_of s).noted (length s.stages)
  pub reached : IsReachedWorld (plan_of s) (world_of s)
  pub from_opening : (row : ℕ) → (base_of s.stripes row).version ≡ 0
  pub rows : HaveTheirRows (length s.names) s.stripes
  pub timely : (i : ℕ) → i < STRIPES → IsTimely s.counter (slice_index_or s.owners i None) s.stages
      (stripe_at s.stripes i).greatest
