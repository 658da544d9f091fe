-- A schedule as contracts see it: what is executed, and the world so far. docs/DEPLOYMENT.md, "Schedule".
use Rattle.std.specs.Prelude.{◌≡◌, ℕ, ℤ, true, false, Bool, List, [], map, length, slice_index_or, Option, None, Result}
use Rattle.std.specs.Prelude.{Ok, Err}
use Rattle.eve_smallbank.specs.SmallBank.{Request}
use Rattle.eve_smallbank.specs.Access.{balance_of_row}
use Rattle.eve_smallbank.specs.Chain.{Table}
use Rattle.eve_grammar.specs.Trace.{Batch}
use Rattle.eve_stamps.specs.Applied.{Applied}
use Rattle.eve_stamps.specs.Stripes.{Stripe, committed, rows_now}
use Rattle.eve_stamps.specs.OpeningRows.{stripe_of}
use Rattle.eve_stamps_schedule.specs.declared.event.Event.{Event}
use Rattle.eve_stamps_schedule.specs.declared.event.Event.TheVariants.{Claim, LockStripe, Tick, Apply, Unlock, Note}
use Rattle.eve_stamps_schedule.specs.declared.fault.StepFault.{StepFault}
use Rattle.eve_stamps_schedule.specs.declared.fault.StepFault.TheVariants as fault
use Rattle.eve_stamps_schedule.specs.declared.stage.Stage.{Stage}
use Rattle.eve_stamps_schedule.specs.declared.stage.Stage.TheVariants as at
use Rattle.eve_stamps_schedule.specs.World.{Plan, World}
use Rattle.eve_stamps_schedule.specs.Events.{is_allowed_event, happens}

-- What is executed, and what the stripes, the workers and the counter are at: stripes and owners by stripe, stages and
-- noted records by worker.
pub record Schedule : Type 0 where
  pub names : List (List ℕ)
  pub sizes : List ℕ
  pub requests : List Request
  pub stripes : List Stripe
  pub owners : List (Option ℕ)
  pub claimed : ℕ
  pub counter : ℕ
  pub stages : List Stage
  pub noted : List (List Applied)
  pub applied : List Applied

-- ---- what it stands for

-- the requests of a batch
abbrev pub requests_of_batch : Batch → List Request
requests_of_batch b = map (λ a. a.request) b.requests

-- the batch of these customers, from their opening balances, by this number of workers
abbrev pub opening_plan : List (List ℕ) → List ℤ → Batch → ℕ → Plan
opening_plan names balances batch workers = record {
  names = names;
  base = λ row. record { version = 0; value = balance_of_row balances row };
  sizes = batch.sizes;
  requests = requests_of_batch batch;
  workers = workers;
}

-- a stripe by its number
abbrev pub stripe_at : List Stripe → ℕ → Stripe
stripe_at stripes s = slice_index_or stripes s (record { base = []; journal = []; greatest = None })

-- what the rows of these stripes have, and what they had at first
abbrev pub table_of_stripes : List Stripe → Table
table_of_stripes stripes row = rows_now (stripe_at stripes (stripe_of row)) row

abbrev pub base_of : List Stripe → Table
base_of stripes row = committed (stripe_at stripes (stripe_of row)) row

abbrev pub plan_of : Schedule → Plan
plan_of s =
    record {
      names = s.names;
      base = base_of s.stripes;
      sizes = s.sizes;
      requests = s.requests;
      workers = length s.stages;
    }

abbrev pub world_of : Schedule → World
world_of s = record {
  table = table_of_stripes s.stripes;
  owners = λ i. slice_index_or s.owners i None;
  claimed = s.claimed;
  counter = s.counter;
  stages = λ v. slice_index_or s.stages v at.Idle;
  noted = λ v. slice_index_or s.noted v [];
  applied = s.applied;
}

-- ---- steps

-- whether the event is allowed now
abbrev pub allows : Schedule → Event → Bool
allows s event = is_allowed_event (plan_of s) (world_of s) event

-- of all events, a record that is made and one that is noted take memory
abbrev pub takes_memory : Event → Bool
takes_memory (Claim worker) = false
takes_memory (LockStripe worker) = false
takes_memory (Tick worker) = false
takes_memory (Apply worker) = true
takes_memory (Unlock worker) = false
takes_memory (Note worker) = true

-- What a step makes of a schedule, by its answer. At Ok the event was allowed, and it has happened. It is NotAllowed
-- where the event isn't, and Memory only where it is allowed and takes memory; then nothing has changed.
abbrev pub Steps : {A : Type 0} → Event → Schedule → Schedule → Result A StepFault → Type 0
Steps event old new (Ok _) =
    (allows old event ≡ true) × (plan_of new ≡ plan_of old)
    × (world_of new ≡ happens (plan_of old) (world_of old) event)
Steps event old new (Err fault.NotAllowed) = (allows old event ≡ false) × (new ≡ old)
Steps event old new (Err fault.Memory) = (allows old event ≡ true) × (takes_memory event ≡ true) × (new ≡ old)
