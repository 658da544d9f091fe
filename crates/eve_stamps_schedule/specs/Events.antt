-- What may happen next, and what the world is then. docs/DEPLOYMENT.md, "Schedule".
use Rattle.std.specs.Prelude.{ℕ, ◌+◌, nat_lt, ◌==◌, Bool, true, false, not, ◌&&◌, if◌then◌else◌, List, [], ◌∷◌, ◌++◌}
use Rattle.std.specs.Prelude.{length, Option, Some, None, is_some, is_none}
use Rattle.eve_smallbank.specs.Chain.{table_after}
use Rattle.eve_smallbank.specs.Execution.{executed_on}
use Rattle.eve_grammar.specs.Certificate.{group_of}
use Rattle.eve_stamps.specs.Applied.{Applied, noted_of}
use Rattle.eve_stamps_schedule.specs.declared.event.Event.{Event}
use Rattle.eve_stamps_schedule.specs.declared.event.Event.TheVariants.{Claim, LockStripe, Tick, Apply, Unlock, Note}
use Rattle.eve_stamps_schedule.specs.declared.stage.Stage.{Stage}
use Rattle.eve_stamps_schedule.specs.declared.stage.Stage.TheVariants as at
use Rattle.eve_stamps.specs.declared.limits.TheConstants.{STRIPES}
use Rattle.eve_stamps_schedule.specs.Stripes.{needs, least_from, greatest_below}
use Rattle.eve_stamps_schedule.specs.World.{Plan, World, planned_request, noted_count}

abbrev pub worker_of : Event → ℕ
worker_of (Claim worker) = worker
worker_of (LockStripe worker) = worker
worker_of (Tick worker) = worker
worker_of (Apply worker) = worker
worker_of (Unlock worker) = worker
worker_of (Note worker) = worker

-- ---- where an event is allowed

-- the current parallelBatch: the first that isn't all noted
abbrev pub current_group : Plan → World → ℕ
current_group p w = group_of p.sizes (noted_count w.noted p.workers)

-- The least unclaimed index is the number of claimed requests. It is there, in the current parallelBatch.
abbrev pub may_claim : Plan → World → Bool
may_claim p w = nat_lt w.claimed (length p.requests) && (group_of p.sizes w.claimed == current_group p w)

abbrev pub is_owner : ℕ → Option ℕ → Bool
is_owner worker None = false
is_owner worker (Some owner) = owner == worker

-- whether the request of an index needs the stripe
abbrev pub needs_at : Plan → ℕ → ℕ → Bool
needs_at p index = needs p.names (planned_request p index)

-- the least stripe that the request needs and the worker doesn't own
abbrev pub next_stripe : Plan → World → ℕ → ℕ → Option ℕ
next_stripe p w worker index = least_from 0 STRIPES (λ s. needs_at p index s && not (is_owner worker (w.owners s)))

-- the greatest stripe that the worker owns
abbrev pub last_stripe : World → ℕ → Option ℕ
last_stripe w worker = greatest_below STRIPES (λ s. is_owner worker (w.owners s))

-- there is such a stripe, and nobody owns it
abbrev pub is_free : World → Option ℕ → Bool
is_free w None = false
is_free w (Some s) = is_none (w.owners s)

-- whether the event is allowed for its worker, who is at this stage
abbrev pub may : Plan → World → Event → Stage → Bool
may p w (Claim v) at.Idle = may_claim p w
may p w (LockStripe v) (at.Claimed i) = is_free w (next_stripe p w v i)
may p w (Tick v) (at.Claimed i) = is_none (next_stripe p w v i)
may p w (Apply v) (at.Ticked i n) = true
may p w (Unlock v) (at.Applied x) = is_some (last_stripe w v)
may p w (Note v) (at.Applied x) = is_none (last_stripe w v)
may p w _ _ = false

-- the worker is there, and the event is allowed for it
abbrev pub is_allowed_event : Plan → World → Event → Bool
is_allowed_event p w event = nat_lt (worker_of event) p.workers && may p w event (w.stages (worker_of event))

-- ---- what an event does

-- the same but at one number
abbrev pub changed : {A : Type 0} → (ℕ → A) → ℕ → A → ℕ → A
changed f i x j = if j == i then x else f j

abbrev pub with_owner : World → Option ℕ → Option ℕ → World
with_owner w None owner = w
with_owner w (Some s) owner = record w { owners = changed w.owners s owner }

-- the record of a request that is applied now
abbrev pub record_made : Plan → World → ℕ → ℕ → ℕ → Applied
record_made p w v i n = noted_of v (length (w.noted v)) i n (executed_on p.names w.table (planned_request p i))

-- the record among others, before the first of a greater tick
abbrev pub placed_by_tick : Applied → List Applied → List Applied
placed_by_tick x [] = x ∷ []
placed_by_tick x (y ∷ ys) = if nat_lt x.tick y.tick then x ∷ y ∷ ys else y ∷ placed_by_tick x ys

-- the rows have what the record wrote
abbrev pub with_applied : World → ℕ → Applied → World
with_applied w v x =
    record w {
      table = table_after w.table x.entries;
      stages = changed w.stages v (at.Applied x);
      applied = placed_by_tick x w.applied;
    }

-- the record goes to the end of the worker's list
abbrev pub with_noted : World → ℕ → Applied → World
with_noted w v x = record w { stages = changed w.stages v at.Idle; noted = changed w.noted v (w.noted v ++ x ∷ []) }

-- what an event does for its worker, who is at this stage
abbrev pub then_happens : Plan → World → Event → Stage → World
then_happens p w (Claim v) at.Idle =
    record w { claimed = w.claimed + 1; stages = changed w.stages v (at.Claimed w.claimed) }
then_happens p w (LockStripe v) (at.Claimed i) = with_owner w (next_stripe p w v i) (Some v)
then_happens p w (Tick v) (at.Claimed i) =
    record w { counter = w.counter + 1; stages = changed w.stages v (at.Ticked i w.counter) }
then_happens p w (Apply v) (at.Ticked i n) = with_applied w v (record_made p w v i n)
then_happens p w (Unlock v) (at.Applied x) = with_owner w (last_stripe w v) None
then_happens p w (Note v) (at.Applied x) = with_noted w v x
then_happens p w _ _ = w

abbrev pub happens : Plan → World → Event → World
happens p w event = then_happens p w event (w.stages (worker_of event))

-- ---- lists of events

-- each event is allowed where it comes
abbrev pub are_allowed : Plan → World → List Event → Bool
are_allowed p w [] = true
are_allowed p w (event ∷ events) = is_allowed_event p w event && are_allowed p (happens p w event) events

abbrev pub world_after : Plan → World → List Event → World
world_after p w [] = w
world_after p w (event ∷ events) = world_after p (happens p w event) events
