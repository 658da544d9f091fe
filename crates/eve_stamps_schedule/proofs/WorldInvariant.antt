-- What every reached world keeps.
use Rattle.std.proofs.Common.{◌≡◌, ℕ, ◌+◌, ◌<◌, ◌≤◌, Bool, true, false, cond, ◌==◌, nat_lt, List, [], map, length}
use Rattle.std.proofs.Common.{count_by, Option, ◌⊎◌}
use Rattle.std.specs.Prelude.{IsPermutation}
use Rattle.std.specs.List.{AllByRecursion}
use Rattle.eve_smallbank.specs.Access.{Executed}
use Rattle.eve_smallbank.specs.Chain.{Table, visible_at, table_after_all}
use Rattle.eve_smallbank.specs.Conflict.{IsReordering}
use Rattle.eve_smallbank.specs.Execution.{executed_on}
use Rattle.eve_smallbank.proofs.Chains.{Follows}
use Rattle.eve_grammar.specs.Certificate.{group_of}
use Rattle.eve_stamps.specs.Applied.{Applied}
use Rattle.eve_stamps_schedule.specs.declared.stage.Stage.{Stage}
use Rattle.eve_stamps_schedule.specs.declared.stage.Stage.TheVariants as at
use Rattle.eve_stamps.specs.declared.limits.TheConstants.{STRIPES}
use Rattle.eve_stamps_schedule.specs.ListOrder.{EachBefore}
use Rattle.eve_stamps_schedule.specs.World.{Plan, World, planned_request, executed_record, noted_count, records_below}
use Rattle.eve_stamps_schedule.specs.Events.{current_group, is_owner, needs_at}
use Rattle.eve_stamps_schedule.specs.Serial.{order_of}
use Rattle.eve_stamps_schedule.proofs.Changes.{counted}

-- ---- how many workers are where

-- one where it passes
abbrev pub flag : Bool → ℕ
flag b = cond b 1 0

-- of the workers below n, those at a stage that passes
abbrev pub held : (Stage → Bool) → (ℕ → Stage) → ℕ → ℕ
held test stages n = counted (λ s. flag (test s)) stages n

abbrev pub is_busy : Stage → Bool
is_busy at.Idle = false
is_busy (at.Claimed i) = true
is_busy (at.Ticked i n) = true
is_busy (at.Applied x) = true

abbrev pub is_claimed : Stage → Bool
is_claimed at.Idle = false
is_claimed (at.Claimed i) = true
is_claimed (at.Ticked i n) = false
is_claimed (at.Applied x) = false

abbrev pub is_ticked : Stage → Bool
is_ticked at.Idle = false
is_ticked (at.Claimed i) = false
is_ticked (at.Ticked i n) = true
is_ticked (at.Applied x) = false

-- it has the index, and hasn't applied
abbrev pub has_index : ℕ → Stage → Bool
has_index i at.Idle = false
has_index i (at.Claimed j) = j == i
has_index i (at.Ticked j n) = j == i
has_index i (at.Applied x) = false

-- it has the tick, and hasn't applied
abbrev pub has_tick : ℕ → Stage → Bool
has_tick n at.Idle = false
has_tick n (at.Claimed j) = false
has_tick n (at.Ticked j m) = m == n
has_tick n (at.Applied x) = false

-- the ticks of the applied records
abbrev pub ticks_of : World → List ℕ
ticks_of w = map (λ x. x.tick) w.applied

-- each claimed index and each tick that was drawn is in one place
pub record Counts (p : Plan) (w : World) : Type 0 where
  pub indexes : (i : ℕ) → count_by (λ j. j == i) (order_of w) + held (has_index i) w.stages p.workers
      ≡ flag (nat_lt i w.claimed)
  pub ticks : (n : ℕ) → count_by (λ m. m == n) (ticks_of w) + held (has_tick n) w.stages p.workers
      ≡ flag (nat_lt n w.counter)
  pub claimed : w.claimed ≡ noted_count w.noted p.workers + held is_busy w.stages p.workers
  pub ticked : w.claimed ≡ w.counter + held is_claimed w.stages p.workers
  pub applied : w.counter ≡ length w.applied + held is_ticked w.stages p.workers
  pub within : w.claimed ≤ length p.requests
  pub current : (i : ℕ) → i < w.claimed → group_of p.sizes i ≤ current_group p w

-- ---- in the order in which they were applied

-- some stripe is needed by both requests of the batch
abbrev pub Share : Plan → ℕ → ℕ → Type 0
Share p i j = (s : ℕ) × (s < STRIPES) × (needs_at p i s ≡ true) × (needs_at p j s ≡ true)

-- the one has to tick before the other if it was applied before it
abbrev pub Bound : Plan → ℕ → ℕ → Type 0
Bound p i j = Share p i j ⊎ (group_of p.sizes i < group_of p.sizes j)

-- the record was made of some table
abbrev pub IsMade : Plan → Applied → Type 0
IsMade p x = (table : Table) × (executed_record p x ≡ executed_on p.names table (planned_request p x.index))

-- A worker with a tick owns what it needs, and what was applied and binds it has a smaller tick.
abbrev pub IsReady : Plan → ℕ → ℕ → (ℕ → Option ℕ) → List Applied → ℕ → Stage → Type 0
IsReady p counter current owners history v at.Idle = Unit {0}
IsReady p counter current owners history v (at.Claimed i) = group_of p.sizes i ≡ current
IsReady p counter current owners history v (at.Ticked i n) =
    (n < counter) × (group_of p.sizes i ≡ current)
    × ((s : ℕ) → s < STRIPES → needs_at p i s ≡ true → is_owner v (owners s) ≡ true)
    × AllByRecursion (λ x. Bound p x.index i → x.tick < n) history
IsReady p counter current owners history v (at.Applied x) = Unit {0}

-- the executed requests of records
abbrev pub executed : Plan → List Applied → List Executed
executed p xs = map (executed_record p) xs

-- the records, in the order in which they were applied
pub record Holds (p : Plan) (w : World) (history : List Applied) : Type 0 where
  pub made : AllByRecursion (IsMade p) history
  pub follows : Follows (visible_at p.base []) (executed p history)
  pub table : w.table ≡ table_after_all (visible_at p.base []) (executed p history)
  pub below : AllByRecursion (λ x. x.tick < w.counter) history
  pub ordered : EachBefore (λ x y. Bound p x.index y.index → x.tick < y.tick) history
  pub grouped : EachBefore (λ x y. group_of p.sizes x.index ≤ group_of p.sizes y.index) history
  pub passed : AllByRecursion (λ x. group_of p.sizes x.index ≤ current_group p w) history
  pub ready : (v : ℕ) → v < p.workers → IsReady p w.counter (current_group p w) w.owners history v (w.stages v)

-- the applied records by tick, and what they have to do with the history and with what the workers have
pub record IsKept (p : Plan) (w : World) : Type 0 where
  pub counts : Counts p w
  pub history : List Applied
  pub holds : Holds p w history
  pub same : IsReordering w.applied history
  pub rises : EachBefore (λ x y. x.tick < y.tick) w.applied
  pub gathered : IsPermutation (records_below w p.workers) w.applied
