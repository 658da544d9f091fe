-- What holds after every list of events. docs/DEPLOYMENT.md, "Schedule".
use Rattle.std.specs.Prelude.{⊤, ◌+◌, ◌∷◌, ◌≡◌, ℕ, ◌<◌, ◌==◌, Bool, IsTrue, IsPermutation, List, [], map, length}
use Rattle.std.specs.List.{AllByRecursion}
use Rattle.eve_smallbank.specs.SmallBank.{run}
use Rattle.eve_smallbank.specs.Access.{Executed, bank_of, Fits}
use Rattle.eve_smallbank.specs.Chain.{values_of, IsChained}
use Rattle.eve_stamps.specs.Applied.{Applied}
use Rattle.eve_stamps_schedule.specs.declared.event.Event.{Event}
use Rattle.eve_stamps_schedule.specs.ListOrder.{EachBefore}
use Rattle.eve_stamps_schedule.specs.World.{Plan, World, first_world, executed_record, noted_count, noted_below}
use Rattle.eve_stamps_schedule.specs.Events.{are_allowed, world_after}
use Rattle.eve_grammar.specs.Certificate.{keeps_groups}

-- the world comes of events of which each was allowed
pub record IsReachedWorld (p : Plan) (w : World) : Type 0 where
  pub events : List Event
  pub allowed : IsTrue (are_allowed p (first_world p) events)
  pub world : w ≡ world_after p (first_world p) events

-- the applied requests, in the order of their ticks
abbrev pub executed_so_far : Plan → World → List Executed
executed_so_far p w = map (executed_record p) w.applied

-- The ticks of the applied records rise. In their order the records fit and are chained from what the rows had at
-- first, and SmallBank on one thread gives their replies and what the rows have now.
pub record IsSerialWorld (p : Plan) (w : World) : Type 0 where
  pub rises : EachBefore (λ x y. x.tick < y.tick) w.applied
  pub fits : AllByRecursion (Fits p.names) (executed_so_far p w)
  pub chained : IsChained p.base [] (executed_so_far p w)
  pub runs : run (bank_of p.names (values_of p.base)) (map (λ x. x.request) (executed_so_far p w))
      ≡ (bank_of p.names (values_of w.table), map (λ x. x.reply) (executed_so_far p w))

-- these are records of this worker, with the places from this one on
abbrev pub AreNotedBy : ℕ → ℕ → List Applied → Type 0
AreNotedBy worker place [] = ⊤
AreNotedBy worker place (x ∷ xs) = (x.worker ≡ worker) × (x.place ≡ place) × AreNotedBy worker (place + 1) xs

-- the indexes of the applied records, by rising tick
abbrev pub order_of : World → List ℕ
order_of w = map (λ x. x.index) w.applied

-- every request is noted
abbrev pub is_done : Plan → World → Bool
is_done p w = noted_count w.noted p.workers == length p.requests

-- Every request is noted: the noted records are the applied ones, and the order keeps the parallelBatches.
pub record IsComplete (p : Plan) (w : World) : Type 0 where
  pub noted : IsPermutation (noted_below w p.workers) w.applied
  pub groups : IsTrue (keeps_groups p.sizes (length p.requests) (order_of w))
