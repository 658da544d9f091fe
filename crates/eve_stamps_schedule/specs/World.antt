-- Workers that execute one batch, as they stand between two events. docs/DEPLOYMENT.md, "Schedule".
use Rattle.std.specs.Prelude.{ℕ, zero, suc, ◌+◌, List, [], ◌++◌, ◌∷◌, length, Option, None, slice_index_or}
use Rattle.eve_smallbank.specs.SmallBank.{Request, Balance}
use Rattle.eve_smallbank.specs.Access.{Executed}
use Rattle.eve_smallbank.specs.Chain.{Table}
use Rattle.eve_stamps.specs.Applied.{Applied, executed_as}
use Rattle.eve_stamps_schedule.specs.declared.stage.Stage.{Stage}
use Rattle.eve_stamps_schedule.specs.declared.stage.Stage.TheVariants as at

-- what is executed: a batch of these customers, from what the rows have at first, by `workers` workers
pub record Plan : Type 0 where
  pub names : List (List ℕ)
  pub base : Table
  pub sizes : List ℕ
  pub requests : List Request
  pub workers : ℕ

-- What the rows have, who owns each stripe, how many indexes are claimed, the counter of ticks, what each worker is at
-- and what it has noted. The records of all requests that are applied stand in the order of their ticks.
pub record World : Type 0 where
  pub table : Table
  pub owners : ℕ → Option ℕ
  pub claimed : ℕ
  pub counter : ℕ
  pub stages : ℕ → Stage
  pub noted : ℕ → List Applied
  pub applied : List Applied

-- the world at first
abbrev pub first_world : Plan → World
first_world p = record {
  table = p.base;
  owners = λ _. None;
  claimed = 0;
  counter = 0;
  stages = λ _. at.Idle;
  noted = λ _. [];
  applied = [];
}

-- the request of an index
abbrev pub planned_request : Plan → ℕ → Request
planned_request p index = slice_index_or p.requests index (Balance [])

-- a record with its request
abbrev pub executed_record : Plan → Applied → Executed
executed_record p x = executed_as (planned_request p x.index) x

-- how many records the workers below this number have noted
abbrev pub noted_count : (ℕ → List Applied) → ℕ → ℕ
noted_count noted zero = 0
noted_count noted (suc n) = noted_count noted n + length (noted n)

-- the record that a worker has applied and not noted
abbrev pub pending : Stage → List Applied
pending at.Idle = []
pending (at.Claimed index) = []
pending (at.Ticked index tick) = []
pending (at.Applied x) = x ∷ []

-- the records of a worker, noted or not yet
abbrev pub records_at : World → ℕ → List Applied
records_at w v = w.noted v ++ pending (w.stages v)

-- the records of the workers below this number
abbrev pub records_below : World → ℕ → List Applied
records_below w zero = []
records_below w (suc n) = records_below w n ++ records_at w n

-- those of them that are noted
abbrev pub noted_below : World → ℕ → List Applied
noted_below w zero = []
noted_below w (suc n) = noted_below w n ++ w.noted n
