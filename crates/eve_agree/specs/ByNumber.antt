-- What a replica committed, by number. docs/MODEL.md, "Section state, fate".
use Rattle.std.specs.Prelude.{◌≡◌, ℕ, zero, suc, Option, Some, None, slice_get}
use Rattle.eve_grammar.specs.Trace.{Transfer, Trace}
use Rattle.eve_history.specs.Section.{Placed, ByTransfer}
use Rattle.eve_history.specs.SectionHistory.{ExecutedAttempt, ToldReached, ReachedBy, ReachedFrom, NotReached}
use Rattle.eve_history.specs.SectionHistory.{SectionHistory}
use Rattle.eve_history.specs.SectionHistory.{told_reached_at, how_reached_at, committed_at}

-- the attempt by which a number was reached, where it was one
abbrev pub told_by : ToldReached → Option ExecutedAttempt
told_by (ReachedBy r) = Some r
told_by (ReachedFrom i) = None
told_by NotReached = None

-- the attempt by which the replica committed batch n, as its section tells it
abbrev pub told_at : SectionHistory → ℕ → Option ExecutedAttempt
told_at h zero = None
told_at h (suc n) = told_by (told_reached_at h (suc n))

-- the state by which a number was reached, with its frame's offset, where it was one
abbrev pub told_state : SectionHistory → ToldReached → Option (ℕ × Transfer)
told_state h (ReachedBy r) = None
told_state h (ReachedFrom i) = slice_get h.transfers i
told_state h NotReached = None

-- the state by which the replica reached number n, as its section tells it
abbrev pub told_state_at : SectionHistory → ℕ → Option (ℕ × Transfer)
told_state_at h zero = None
told_state_at h (suc n) = told_state h (told_reached_at h (suc n))

-- at this offset stands an attempt by which replica e committed a batch, and this holds of its number and the attempt
pub record SomeCommitted (t : Trace) (e at : ℕ) (Holds : ℕ → Placed → Type 0) : Type 0 where
  pub n : ℕ
  pub item : Placed
  pub is : committed_at t e n ≡ Some item
  pub offset : item.offset ≡ at
  pub holds : Holds n item

-- at this offset stands a state that was transferred to replica e, and this holds of the number that it reached by it
-- and of the state
pub record SomeTransferred (t : Trace) (e at : ℕ) (Holds : ℕ → Transfer → Type 0) : Type 0 where
  pub n : ℕ
  pub state : Transfer
  pub is : how_reached_at t e n ≡ Some (ByTransfer at state)
  pub holds : Holds n state
