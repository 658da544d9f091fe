-- The requests of all batches, and the first batch with one that occurs earlier. docs/MODEL.md, "Faults".
use Rattle.std.specs.Prelude.{◌≡◌, ℕ, ◌≤◌, ◌-◌, ◌==◌, nat_le, Bool, ◌&&◌, List, map, take, length}
use Rattle.std.specs.Prelude.{slice_get, Some}
use Rattle.std.specs.List.{flat_map, count_by}
use Rattle.eve_grammar.specs.Trace.{Asked, Batch, Trace}
use Rattle.eve_grammar.specs.Spelling.{batches_at}
use Rattle.eve_views.specs.Form.{SomePlace}
use Rattle.eve_history.specs.Order.{IsAskedAgain}
use Rattle.eve_grammar.specs.Trace.{RequestId}
use Rattle.eve_history.specs.declared.repeats.Arrival.{Arrival}

-- a request of batch n
abbrev pub arrival : ℕ → Asked → Arrival
arrival n a = record { number = a.number; client = a.client; batch = n }

-- the requests of a batch
abbrev pub arrivals_at : ℕ × (ℕ × Batch) → List Arrival
arrivals_at b = map (arrival b.1.0) b.1.1.requests

-- those of all batches
abbrev pub arrivals_of : Trace → List Arrival
arrivals_of t = flat_map arrivals_at (batches_at t)

-- both are of one client and number
abbrev pub is_same : Arrival → Arrival → Bool
is_same a b = (a.number == b.number) && (a.client == b.client)

-- the one doesn't come after the other: by number, then by client, then by batch
pub record IsNoLaterArrival (a b : Arrival) : Type 0 where
  pub number : a.number ≤ b.number
  pub client : b.number ≤ a.number → a.client ≤ b.client
  pub batch : b.number ≤ a.number → b.client ≤ a.client → a.batch ≤ b.batch

-- it is this request, and came in batch n or before
abbrev pub is_by : RequestId → ℕ → Arrival → Bool
is_by id n a = nat_le a.batch n && ((a.client == id.0) && (a.number == id.1))

-- up to batch n some request came twice
abbrev pub OccursTwice : List Arrival → ℕ → Type 0
OccursTwice xs n = (id : RequestId) × (2 ≤ count_by (is_by id n) xs)

-- no request came twice
abbrev pub NoneOccursTwice : List Arrival → Type 0
NoneOccursTwice xs = (n : ℕ) → ¬ OccursTwice xs n

-- n is the least batch up to which some request came twice
pub record IsFirstTwice (xs : List Arrival) (n : ℕ) : Type 0 where
  pub twice : OccursTwice xs n
  pub least : (m : ℕ) → OccursTwice xs m → n ≤ m

-- batch n, from 1, has a request that occurs earlier, and none before it has one
pub record IsFirstRepeat (t : Trace) (n : ℕ) : Type 0 where
  pub from_one : 1 ≤ n
  pub there : n ≤ length t.batches
  pub again : (b : ℕ × (ℕ × Batch)) → slice_get (batches_at t) (n - 1) ≡ Some b
      → IsAskedAgain (take (n - 1) (batches_at t)) b
  pub first : ¬ SomePlace (take (n - 1) (batches_at t)) IsAskedAgain
