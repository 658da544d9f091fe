-- Worked schedules of two workers, each with one deposit. docs/DEPLOYMENT.md, "Schedule".
use Rattle.std.specs.Prelude.{ℕ, pos, List, [], ◌∷◌, ◌++◌}
use Rattle.eve_smallbank.specs.SmallBank.{Request, DepositChecking}
use Rattle.eve_stamps_schedule.specs.declared.event.Event.{Event}
use Rattle.eve_stamps_schedule.specs.declared.event.Event.TheVariants.{Claim, LockStripe, Tick, Apply, Unlock, Note}
use Rattle.eve_stamps_schedule.specs.World.{Plan, World, first_world}
use Rattle.eve_stamps_schedule.specs.Events.{world_after}

-- two names, in bytes
abbrev pub ann : List ℕ
ann = 97 ∷ 110 ∷ 110 ∷ []

abbrev pub bob : List ℕ
bob = 98 ∷ 111 ∷ 98 ∷ []

-- two requests of customers with nothing in their accounts
abbrev pub two_requests : List ℕ → Request → Request → Plan
two_requests sizes first second = record {
  names = ann ∷ bob ∷ [];
  base = λ row. record { version = 0; value = pos 0 };
  sizes = sizes;
  requests = first ∷ second ∷ [];
  workers = 2;
}

-- two deposits to one customer in one parallelBatch, and in two
abbrev pub same_stripe : Plan
same_stripe = two_requests (2 ∷ []) (DepositChecking ann (pos 5)) (DepositChecking ann (pos 7))

abbrev pub two_groups : Plan
two_groups = two_requests (1 ∷ 1 ∷ []) (DepositChecking ann (pos 5)) (DepositChecking ann (pos 7))

-- deposits to two customers, and to one that isn't there
abbrev pub two_stripes : Plan
two_stripes = two_requests (2 ∷ []) (DepositChecking ann (pos 5)) (DepositChecking bob (pos 7))

abbrev pub no_stripe : Plan
no_stripe = two_requests (2 ∷ []) (DepositChecking [] (pos 5)) (DepositChecking ann (pos 7))

-- each worker has a request, and worker 1 owns the stripe that it needs
abbrev pub up_to_the_lock : List Event
up_to_the_lock = Claim 0 ∷ Claim 1 ∷ LockStripe 1 ∷ []

-- a worker that owns its stripe does the rest
abbrev pub the_rest_of : ℕ → List Event
the_rest_of worker = Tick worker ∷ Apply worker ∷ Unlock worker ∷ Note worker ∷ []

-- worker 1 first, and then worker 0
abbrev pub one_after_the_other : List Event
one_after_the_other = up_to_the_lock ++ (the_rest_of 1 ++ (LockStripe 0 ∷ the_rest_of 0))

-- worker 0 gets its tick first and applies last
abbrev pub applied_out_of_order : List Event
applied_out_of_order = up_to_the_lock ++ (LockStripe 0 ∷ Tick 0 ∷ Tick 1 ∷ Apply 1 ∷ Apply 0 ∷ [])

abbrev pub world_of_events : Plan → List Event → World
world_of_events p events = world_after p (first_world p) events
