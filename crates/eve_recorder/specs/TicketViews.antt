-- What contracts see of tickets and their seats, in the terms of docs/DEPLOYMENT.md, "Recorder lists, drawn numbers".
use Rattle.std.specs.Prelude.{◌≡◌, ℕ, ◌<◌, List, [], Option, None, Some, if◌then◌else◌, nat_lt, flat_map}
use Rattle.atomic_table.specs.Seated.{TableId}
use Rattle.eve_recorder.specs.SeatTables.{table_by, HasBelow, AreSeated}

-- tickets: which they are, by a table that no others share, how many seats they have, and how many numbers
-- each seat may draw
pub record TicketSource : Type 0 where
  pub table : TableId
  pub seats : ℕ
  pub limit : ℕ

abbrev pub ticket_source : TableId → ℕ → ℕ → TicketSource
ticket_source table seats limit = record { table = table; seats = seats; limit = limit }

-- a seat: of which tickets, its number among their seats, and the numbers that it drew
pub record Drawer : Type 0 where
  pub tickets : TicketSource
  pub number : ℕ
  pub drawn : List ℕ

-- the places of all seats of some tickets, and the seats that lie there
pub record Drawers : Type 0 where
  pub tickets : TicketSource
  pub places : List (Option Drawer)

-- the seat with this number before the first draw, where there is one
abbrev pub fresh_seat : TicketSource → ℕ → Option Drawer
fresh_seat t k = if nat_lt k t.seats then Some record { tickets = t; number = k; drawn = [] } else None

-- every seat is there, and has drawn nothing
abbrev pub fresh_seats : TicketSource → Drawers
fresh_seats t = record { tickets = t; places = table_by (fresh_seat t) }

-- every seat is there
abbrev pub HasAllDrawers : Drawers → Type 0
HasAllDrawers s = HasBelow s.tickets.seats s.places

-- a seat of these tickets, with this number
abbrev pub IsDrawerOf : TicketSource → ℕ → Drawer → Type 0
IsDrawerOf t k s = (s.tickets ≡ t) × (s.number ≡ k) × (k < t.seats)

-- each seat lies at its number
abbrev pub AreDrawersSeated : TicketSource → List (Option Drawer) → Type 0
AreDrawersSeated t places = AreSeated (IsDrawerOf t) places

abbrev pub drawn_on : Option Drawer → List ℕ
drawn_on None = []
drawn_on (Some s) = s.drawn

-- the numbers that all seats drew, seat after seat
abbrev pub all_drawn : Drawers → List ℕ
all_drawn s = flat_map drawn_on s.places
