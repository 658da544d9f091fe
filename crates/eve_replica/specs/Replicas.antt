-- A replica as contracts see it, and what its calls make of it. docs/DEPLOYMENT.md, "A replica's ledger".
use Rattle.std.specs.Prelude.{◌≡◌, ℕ, ◌+◌, ◌<◌, ◌≤◌, Bool, true, false, ⊤, IsTrue, List, length}
use Rattle.eve_smallbank.specs.declared.rows.Touched.{Touched}
use Rattle.eve_grammar.specs.declared.limits.TheConstants.{MOST_BATCHES}
use Rattle.eve_grammar.specs.Limits.{is_batch}
use Rattle.eve_stamps.specs.Applied.{Applied}
use Rattle.eve_grammar.specs.Trace.{Batch, Attempt, Commit, Transfer}
use Rattle.eve_attempts.specs.declared.prefix.AttemptHead.{AttemptHead}
use Rattle.eve_attempts.specs.Ledgers.{Ledger}
use Rattle.eve_attempts.specs.ClosedAttempts.{touched_in_batch, Closes}
use Rattle.eve_attempts.specs.CommitsAndRollbacks.{Commits}
use Rattle.eve_floor.specs.Recording.{AreNotedOf}
use Rattle.eve_replica.specs.declared.fault.AttemptFault.{AttemptFault}
use Rattle.eve_replica.specs.declared.fault.AttemptFault.TheVariants as attempt_fault

-- The customers' names, the replica's ledger of its rows, and whether an attempt failed since the last rollback.
pub record Replica : Type 0 where
  pub names : List (List ℕ)
  pub ledger : Ledger
  pub is_broken : Bool

-- These records were closed to the attempt, and nothing but the ledger has changed.
pub record ClosesThese (prefix : AttemptHead) (old new : Replica) (b : Batch) (records : List Applied) (a : Attempt)
    : Type 0 where
  pub closed : Closes prefix old.ledger new.ledger b (touched_in_batch old.names b) records a
  pub rest : new ≡ record old { ledger = new.ledger }

-- And they are what the replica's workers noted of the batch.
pub record ClosesNoted (prefix : AttemptHead) (old new : Replica) (b : Batch) (records : List Applied) (a : Attempt)
    : Type 0 where
  pub noted : AreNotedOf old.names b records
  pub closed : Closes prefix old.ledger new.ledger b (touched_in_batch old.names b) records a
  pub rest : new ≡ record old { ledger = new.ledger }

-- Some records were that its workers noted.
abbrev pub ClosesSome : AttemptHead → Replica → Replica → Batch → Attempt → Type 0
ClosesSome prefix old new b a = (records : List Applied) × ClosesNoted prefix old new b records a

-- number, view and mode of an attempt of the batch that is due, in this view and this mode
abbrev pub attempt_head_of : Ledger → ℕ → Bool → AttemptHead
attempt_head_of s view serial = record { seq = s.committed + 1 + length s.opened; view = view; serial = serial }

-- The replica wasn't broken, and records that its workers noted were closed to the attempt: all that holds of an
-- attempt that is closed holds of it, however its threads ran.
abbrev pub Attempts : ℕ → Bool → Replica → Replica → Batch → Attempt → Type 0
Attempts view serial old new b a = (old.is_broken ≡ false)
    × ClosesSome (attempt_head_of old.ledger view serial) old new b a

-- The same, in the view and in the mode that are due.
abbrev pub AttemptsDue : Replica → Replica → Batch → Attempt → Type 0
AttemptsDue old new b a = Attempts old.ledger.view old.ledger.is_next_serial old new b a

-- its ledger stays, and it is broken
abbrev pub Breaks : Replica → Replica → Type 0
Breaks old new = (old.is_broken ≡ false) × (new ≡ record old { is_broken = true })

-- A broken replica refuses, and stays; every other fault breaks it.
abbrev pub FailsAttempt : AttemptFault → Replica → Replica → Type 0
FailsAttempt attempt_fault.Broken old new = (old.is_broken ≡ true) × (new ≡ old)
FailsAttempt attempt_fault.Memory old new = Breaks old new
FailsAttempt attempt_fault.TickOrder old new = Breaks old new
FailsAttempt attempt_fault.Full old new = Breaks old new
FailsAttempt attempt_fault.Worn old new = Breaks old new
FailsAttempt attempt_fault.Spent old new = Breaks old new
FailsAttempt attempt_fault.NoRow old new = Breaks old new
FailsAttempt attempt_fault.Mismatch old new = Breaks old new

-- The batch may be attempted, whose requests touch this: the replica isn't broken, one more attempt may be open, and
-- its number is within the limits.
pub record MayAttempt (r : Replica) (b : Batch) (touched : List Touched) : Type 0 where
  pub whole : r.is_broken ≡ false
  pub last : r.ledger.committed + 1 + length r.ledger.opened ≤ MOST_BATCHES
  pub room : length r.ledger.opened < r.ledger.window
  pub batch : IsTrue (is_batch b)
  pub reached : touched ≡ touched_in_batch r.names b

-- the fault is one that a worker can have
abbrev pub IsOfWorkers : AttemptFault → Type 0
IsOfWorkers attempt_fault.Broken = ⊥
IsOfWorkers attempt_fault.Memory = ⊤
IsOfWorkers attempt_fault.TickOrder = ⊤
IsOfWorkers attempt_fault.Full = ⊤
IsOfWorkers attempt_fault.Worn = ⊤
IsOfWorkers attempt_fault.Spent = ⊤
IsOfWorkers attempt_fault.NoRow = ⊤
IsOfWorkers attempt_fault.Mismatch = ⊥

-- a fault of its workers broke the replica, which kept its ledger
pub record BreaksBy (why : AttemptFault) (old new : Replica) : Type 0 where
  pub of_workers : IsOfWorkers why
  pub broken : new ≡ record old { is_broken = true }

-- The replica wasn't broken, and these records were closed.
abbrev pub ClosesOwn : AttemptHead → Replica → Replica → Batch → List Applied → Attempt → Type 0
ClosesOwn prefix old new b records a = (old.is_broken ≡ false) × ClosesThese prefix old new b records a

-- an attempt is open, and the first one that is has this number
abbrev pub IsFirstOpen : Ledger → ℕ → Type 0
IsFirstOpen s seq = (seq ≡ s.committed + 1) × (0 < length s.opened)

-- the first open attempt is committed
abbrev pub CommitsFirst : Replica → Replica → Commit → Type 0
CommitsFirst old new c =
    (old.is_broken ≡ false) × Commits old.ledger new.ledger c × (new ≡ record old { ledger = new.ledger })

-- the state is of a later batch than the last committed one, and of no earlier view
abbrev pub IsDue : Transfer → Ledger → Type 0
IsDue x s = (s.committed < x.seq) × (s.view ≤ x.view)
