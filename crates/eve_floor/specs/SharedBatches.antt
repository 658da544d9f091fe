-- Batches as several workers share them, and the seats that workers have there. docs/DEPLOYMENT.md, "Executions".
use Rattle.std.specs.Prelude.{◌≡◌, ℕ, IsTrue, ◌≤◌, All, IfSome, List, [], length, Option, None, Some, slice_index_or}
use Rattle.std.specs.List.{AllZip}
use Rattle.eve_recorder.specs.TicketViews.{Drawer, TicketSource}
use Rattle.eve_recorder.specs.RecorderViews.{noted_on}
use Rattle.eve_grammar.specs.declared.limits.TheConstants.{MOST_REQUESTS}
use Rattle.eve_write.specs.Data.{batch as plain}
use Rattle.eve_floor.specs.declared.seats.OwnSeats.{OwnSeats}
use Rattle.eve_floor.specs.declared.shared.FreeSeats.{FreeSeats}
use Rattle.eve_floor.specs.declared.shared.SharedBatch.{SharedBatch}
use Rattle.eve_floor.specs.declared.work.Crew.{Crew}
use Rattle.eve_floor.specs.declared.workers.Member.{Member}
use Rattle.eve_floor.specs.Assignments.{AreLookedUp}
use Rattle.eve_floor.specs.Recording.{AreMadeBy}

-- A batch of at most 256 requests, as its workers share it: each request has a start, what it touches was looked up
-- among these names, and no seat claims more often than there may be requests.
pub record IsRightlyShared (names : List (List ℕ)) (b : SharedBatch) : Type 0 where
  pub few : length b.assignment.batch.now.requests.items ≤ MOST_REQUESTS
  pub touched : AreLookedUp names (plain b.assignment.batch.now) b.assignment.touched.now
  pub starts : length b.starts.items ≡ length b.assignment.batch.now.requests.items
  pub claims : b.claims.limit ≤ MOST_REQUESTS

-- The seats at a shared batch that no worker has: at its recorder, and at its tickets. What is noted on one are records
-- of requests that its worker executed, and the taker has taken nothing.
pub record AreFreeAt (names : List (List ℕ)) (b : SharedBatch) (s : FreeSeats) : Type 0 where
  pub recorder : s.noters.recorder ≡ b.recorder.recorder
  pub noted : (w : ℕ)
      → AreMadeBy w names (plain b.assignment.batch.now) 0 (noted_on (slice_index_or s.noters.seats w None))
  pub taker : s.noters.taker ≡ Some record { recorder = b.recorder.recorder; taken = [] }
  pub claims : s.claims.tickets ≡ b.claims

-- By a worker's seat at the tickets, where it is there, nothing was claimed, and its seat at the recorder is there, on
-- which nothing was noted.
abbrev pub AreUnused : FreeSeats → Type 0
AreUnused s = (w : ℕ) (c : Drawer) → slice_index_or s.claims.places w None ≡ Some c
    → (c.drawn ≡ [])
    × (slice_index_or s.noters.seats w None
    ≡ Some record { recorder = s.noters.recorder; worker = w; noted = [] })

-- the same of seats of which no worker has used any
pub record AreFreshAt (names : List (List ℕ)) (b : SharedBatch) (s : FreeSeats) : Type 0 where
  pub free : AreFreeAt names b s
  pub unused : AreUnused s

-- A worker's own seats at a shared batch, with the records of the requests that it executed, at most one for each that
-- it claimed.
pub record AreOwnAt (names : List (List ℕ)) (b : SharedBatch) (s : OwnSeats) : Type 0 where
  pub recorder : s.noter.recorder ≡ b.recorder.recorder
  pub noted : AreMadeBy s.noter.worker names (plain b.assignment.batch.now) 0 s.noter.noted
  pub claims : s.claims.tickets ≡ b.claims
  pub few : length s.noter.noted ≤ length s.claims.drawn
  pub most : length s.claims.drawn ≤ b.claims.limit

-- the same, where the worker has seats there
abbrev pub IsPartAt : List (List ℕ) → SharedBatch → Option OwnSeats → Type 0
IsPartAt names b part = IfSome part (AreOwnAt names b)

-- each worker has its seat at these tickets of ticks
abbrev pub AreSeatedAt : TicketSource → List Member → Type 0
AreSeatedAt ticks members = All (λ m. m.tick.tickets ≡ ticks) members

-- the batches of a crew, and the seats there that no worker has
abbrev pub AreRightlyShared : {G : Type 0} → Crew G → Type 0
AreRightlyShared c = All (IsRightlyShared c.floor.now) c.batches.now

abbrev pub AreFreeOf : {G : Type 0} → Crew G → List FreeSeats → Type 0
AreFreeOf c free = AllZip (AreFreeAt c.floor.now) c.batches.now free

abbrev pub AreFreshOf : {G : Type 0} → Crew G → List FreeSeats → Type 0
AreFreshOf c free = AllZip (AreFreshAt c.floor.now) c.batches.now free

-- a worker that has its seat at the crew's tickets of ticks, and its own seats at the crew's batches
abbrev pub IsMemberOf : {G : Type 0} → Crew G → Member → Type 0
IsMemberOf c m = (m.tick.tickets ≡ c.ticks.now) × AllZip (IsPartAt c.floor.now) c.batches.now m.parts.items
