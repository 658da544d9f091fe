-- What contracts see of a recorder and its seats. docs/DEPLOYMENT.md, "Recorder lists, drawn numbers".
use Rattle.std.specs.Prelude.{◌≡◌, ℕ, ◌<◌, if◌then◌else◌, nat_lt, IsSome, List, [], ◌++◌, length, Option, Some, None}
use Rattle.std.specs.Prelude.{flat_map}
use Rattle.atomic_table.specs.Seated.{TableId}
use Rattle.eve_stamps.specs.Applied.{Applied}
use Rattle.eve_recorder.specs.Noted.{of_worker, AllOf, IsOrderly, ComeFrom}
use Rattle.eve_recorder.specs.SeatTables.{table_by, HasBelow, AreSeated}

-- which recorder it is, by a table that no others share, and how many workers it has
pub record RecorderId : Type 0 where
  pub table : TableId
  pub workers : ℕ

abbrev pub recorder_id : TableId → ℕ → RecorderId
recorder_id table workers = record { table = table; workers = workers }

-- which recorder it is, and for how many records it has room
pub record Desk : Type 0 where
  pub recorder : RecorderId
  pub room : ℕ

-- a worker's seat: of which recorder, of which worker, and what was noted on it
pub record Noter : Type 0 where
  pub recorder : RecorderId
  pub worker : ℕ
  pub noted : List Applied

-- the taker's seat: of which recorder, and what was taken on it
pub record Taker : Type 0 where
  pub recorder : RecorderId
  pub taken : List Applied

-- the seats that are there, each worker's at its number
pub record Places : Type 0 where
  pub recorder : RecorderId
  pub seats : List (Option Noter)
  pub taker : Option Taker

-- all that was noted, each worker's in its order, and what was taken of it
pub record NotedAndTaken : Type 0 where
  pub noted : List Applied
  pub taken : List Applied

-- a seat of this recorder and of this worker, on which that worker's records alone were noted
abbrev pub IsNoterOf : RecorderId → ℕ → Noter → Type 0
IsNoterOf recorder w x = (x.recorder ≡ recorder) × (x.worker ≡ w) × (w < recorder.workers) × AllOf w x.noted

-- each seat lies at its worker's number
abbrev pub AreNotersSeated : RecorderId → List (Option Noter) → Type 0
AreNotersSeated recorder seats = AreSeated (IsNoterOf recorder) seats

-- the taker's seat, where it is there, is of this recorder
abbrev pub IsTakerAt : RecorderId → Option Taker → Type 0
IsTakerAt recorder None = Unit {0}
IsTakerAt recorder (Some t) = t.recorder ≡ recorder

-- what was noted on a seat, nothing where there is none
abbrev pub noted_on : Option Noter → List Applied
noted_on None = []
noted_on (Some x) = x.noted

-- all that was noted, worker after worker
abbrev pub noted_on_all : List (Option Noter) → List Applied
noted_on_all seats = flat_map noted_on seats

-- each worker's seat is there, and the taker's
abbrev pub HasAllSeats : Places → Type 0
HasAllSeats p = IsSome p.taker × HasBelow p.recorder.workers p.seats

-- the seat of worker w, where there is that worker, with nothing noted
abbrev pub fresh_noter : RecorderId → ℕ → Option Noter
fresh_noter recorder w =
    if nat_lt w recorder.workers then Some record { recorder = recorder; worker = w; noted = [] } else None

-- the seats of all workers and the taker, with nothing noted and nothing taken
abbrev pub fresh_places : RecorderId → Places
fresh_places recorder = record {
  recorder = recorder;
  seats = table_by (fresh_noter recorder);
  taker = Some record { recorder = recorder; taken = [] };
}

-- At one moment the queue was full. What was taken before and what it held then are of workers that are there, each
-- worker's in their places, and of this seat's worker are what was noted on the seat.
abbrev pub WasFull : Desk → Noter → Type 0
WasFull desk seat =
    (taken : List Applied) × (queued : List Applied) × (length queued ≡ desk.room)
    × IsOrderly (taken ++ queued) × ComeFrom desk.recorder.workers (taken ++ queued)
    × (of_worker seat.worker (taken ++ queued) ≡ seat.noted)

-- at one moment nothing was queued behind what was taken so far, and that is in order
abbrev pub WasEmpty : List Applied → Type 0
WasEmpty taken = (queued : List Applied) × (length queued ≡ 0) × IsOrderly (taken ++ queued)
