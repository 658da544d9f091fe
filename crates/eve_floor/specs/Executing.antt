-- A worker as contracts see it, and what one execution makes of it. docs/DEPLOYMENT.md, "Executions".
use Rattle.std.specs.Prelude.{◌≡◌, ℕ, ◌⊎◌, IsSome, List, [], ◌∷◌, ◌++◌, length, Option, None, Some}
use Rattle.std.specs.Prelude.{Result, Ok, Err}
use Rattle.eve_smallbank.specs.SmallBank.{Request}
use Rattle.eve_smallbank.specs.Access.{Fits}
use Rattle.eve_stamps.specs.Applied.{Applied, executed_as}
use Rattle.eve_recorder.specs.TicketViews.{TicketSource, Drawer}
use Rattle.eve_recorder.specs.RecorderViews.{Desk, Noter, WasFull}
use Rattle.eve_floor.specs.declared.fault.ExecFault.{ExecFault}
use Rattle.eve_floor.specs.declared.fault.ExecFault.TheVariants as fault

-- a worker: its seat at the recorder, its seat at the tickets, and the record that waits to be noted
pub record Executor : Type 0 where
  pub seat : Noter
  pub tickets : Drawer
  pub waiting : Option Applied

-- it is the seat's worker's, and has the seat's next place
abbrev pub IsNext : Noter → Applied → Type 0
IsNext seat r = (r.worker ≡ seat.worker) × (r.place ≡ length seat.noted)

-- its seats are of this recorder and of these tickets
abbrev pub IsSeatedAt : Desk → TicketSource → Executor → Type 0
IsSeatedAt recorder tickets w = (w.seat.recorder ≡ recorder.recorder) × (w.tickets.tickets ≡ tickets)

-- its seats are those that they were: each of the same object, with the same number
abbrev pub KeepsSeats : Executor → Executor → Type 0
KeepsSeats old new =
    (new.seat.recorder ≡ old.seat.recorder) × (new.seat.worker ≡ old.seat.worker)
    × (new.tickets.tickets ≡ old.tickets.tickets) × (new.tickets.number ≡ old.tickets.number)

-- ---- what an execution does

-- the record of this request, with this index in its batch, as the worker notes it at that place: it fits
abbrev pub IsRecordOf : List (List ℕ) → Request → ℕ → ℕ → ℕ → Applied → Type 0
IsRecordOf names request index worker place r =
    (r.index ≡ index) × (r.worker ≡ worker) × (r.place ≡ place) × Fits names (executed_as request r)

-- one more number is drawn on the seat
abbrev pub with_drawn : ℕ → Drawer → Drawer
with_drawn tick d = record { tickets = d.tickets; number = d.number; drawn = d.drawn ++ tick ∷ [] }

-- no more may be drawn on the seat
abbrev pub IsSpent : Drawer → Type 0
IsSpent d = length d.drawn ≡ d.tickets.limit

-- one more number is drawn
abbrev pub drawing : ℕ → Executor → Executor
drawing tick w = record { seat = w.seat; tickets = with_drawn tick w.tickets; waiting = w.waiting }

-- one more record is noted, and nothing waits
abbrev pub noting_record : Applied → Executor → Executor
noting_record r w = record {
  seat = record w.seat { noted = w.seat.noted ++ r ∷ [] };
  tickets = w.tickets;
  waiting = None;
}

-- the record waits
abbrev pub holding : Applied → Executor → Executor
holding r w = record { seat = w.seat; tickets = w.tickets; waiting = Some r }

-- nothing waits, and one number is drawn
abbrev pub DrawsOne : Executor → Executor → Type 0
DrawsOne old new = (old.waiting ≡ None) × (tick : ℕ) × (new ≡ drawing tick old)

-- One number is drawn, and it is the tick of the record that the worker gains for the request: noted, or waiting.
abbrev pub Gains : (Applied → Executor → Executor) → List (List ℕ) → Request → ℕ → Executor → Executor → Type 0
Gains with_record names request index old new =
    (r : Applied) × (new ≡ with_record r (drawing r.tick old))
    × IsRecordOf names request index old.seat.worker (length old.seat.noted) r

-- What one execution makes of a worker, by its answer. Where a record waits already, or the seat is spent, nothing is
-- done. Else one number is drawn: at Ok and at Full of the queue it is the tick of the request's record, which is noted
-- or waits; after another refusal no record has it.
abbrev pub Executes : {A : Type 0} → Desk → List (List ℕ) → Request → ℕ
    → Executor → Executor → Result A ExecFault → Type 0
Executes recorder names request index old new (Ok _) = (old.waiting ≡ None)
    × Gains noting_record names request index old new
Executes recorder names request index old new (Err fault.Full) =
    (IsSome old.waiting × (new ≡ old))
    ⊎ ((old.waiting ≡ None) × WasFull recorder old.seat
    × Gains holding names request index old new)
Executes recorder names request index old new (Err fault.Spent) =
    (old.waiting ≡ None) × (new ≡ old) × IsSpent old.tickets
Executes recorder names request index old new (Err fault.NoRow) = DrawsOne old new
Executes recorder names request index old new (Err fault.TickOrder) = DrawsOne old new
Executes recorder names request index old new (Err fault.Worn) = DrawsOne old new
Executes recorder names request index old new (Err fault.Memory) = DrawsOne old new

-- ---- what waits is noted

-- the worker with what waits noted
abbrev pub with_waiting_noted : Option Applied → Executor → Executor
with_waiting_noted None w = w
with_waiting_noted (Some r) w = noting_record r w

-- What a flush makes of a worker, by its answer. No fault is answered but Full.
abbrev pub Flushes : {A : Type 0} → Desk → Executor → Executor → Result A ExecFault → Type 0
Flushes recorder old new (Ok _) = new ≡ with_waiting_noted old.waiting old
Flushes recorder old new (Err why) =
    (why ≡ fault.Full) × IsSome old.waiting × (new ≡ old) × WasFull recorder old.seat
