-- What shows that a state transferred isn't the one that was committed. docs/MODEL.md, "Agreement" and "Evidence".
use Rattle.std.specs.Prelude.{◌≡◌, ◌≢◌, ℕ, ℤ, List, take, slice_get, Some, None}
use Rattle.eve_grammar.specs.Trace.{Transfer, Trace}
use Rattle.eve_history.specs.Section.{Placed, ByTransfer}
use Rattle.eve_history.specs.SectionHistory.{committed_at, how_reached_at}
use Rattle.eve_chains.specs.Committed.{balances_to}
use Rattle.eve_agree.specs.Agreement.{first_to_commit, HasBalancesOfFirst}
use Rattle.eve_evidence.specs.declared.evidence.ToldRow.{ToldRow}
use Rattle.eve_evidence.specs.declared.evidence.StateFault.{StateFault}
use Rattle.eve_evidence.specs.declared.evidence.StateFault.TheVariants.{NoneCommitted, Row}
use Rattle.eve_evidence.specs.declared.evidence.Evidence.{Evidence}
use Rattle.eve_evidence.specs.declared.evidence.Evidence.TheVariants as shown
use Rattle.eve_evidence.specs.Told.{IsToldRow, told_transfer}
use Rattle.eve_evidence_outcomes.specs.declared.apart.RowApart.{RowApart}

-- the lowest-numbered replica that committed the batch by an attempt, and the byte of that attempt's frame
pub record IsFirstCommitted (t : Trace) (n first at : ℕ) : Type 0 where
  pub first_is : first_to_commit t n ≡ Some first
  pub placed : Placed
  pub committed : committed_at t first n ≡ Some placed
  pub at_is : at ≡ placed.offset

-- of two lists of balances the first row in which they differ, and what it has in the one and in the other
pub record IsRowApart (t : Trace) (own its : List ℤ) (row : ToldRow) (found due : ℤ) : Type 0 where
  pub row_is : IsToldRow t row.row row
  pub found_is : slice_get own row.row ≡ Some found
  pub due_is : slice_get its row.row ≡ Some due
  pub apart : found ≢ due
  pub first : take row.row own ≡ take row.row its

-- the first thing in which replica e's balances after number n aren't those of the first that committed it
abbrev pub TellsStateFault : Trace → ℕ → ℕ → StateFault → Type 0
TellsStateFault t e n NoneCommitted = first_to_commit t n ≡ None
TellsStateFault t e n (Row first at row found due) =
    IsFirstCommitted t n first at × IsRowApart t (balances_to t e n) (balances_to t first n) row found due

-- the evidence is of this state, whose frame stands at this offset, and tells it
abbrev pub TellsStateIn : Trace → ℕ → ℕ → ℕ → Transfer → Evidence → Type 0
TellsStateIn t e n at x (shown.TransferState state wrong) = (state ≡ told_transfer at x) × TellsStateFault t e n wrong
TellsStateIn t e n at x _ = ⊥

-- replica e reached the number by a state whose frame stands at this byte
pub record IsTransferredAt (t : Trace) (e place n : ℕ) : Type 0 where
  pub state : Transfer
  pub is : how_reached_at t e n ≡ Some (ByTransfer place state)

-- The evidence shows that the state transferred at this byte isn't the one that was committed.
abbrev pub TellsState : Trace → ℕ → ℕ → Evidence → Type 0
TellsState t e place evidence =
    (n : ℕ) × (transferred : IsTransferredAt t e place n) × TellsStateIn t e n place transferred.state evidence

-- a row that was found apart
abbrev pub IsRowFoundApart : Trace → List ℤ → List ℤ → RowApart → Type 0
IsRowFoundApart t own its a = IsRowApart t own its a.row a.found a.due

-- replica e has the balances after number n of the first that committed the batch
pub record HasThoseOfFirst (t : Trace) (e n : ℕ) : Type 0 where
  pub first : ℕ
  pub is : first_to_commit t n ≡ Some first
  pub same : balances_to t e n ≡ balances_to t first n

-- the state by which replica e reached the number, if its frame stands at this byte, is the one that was committed
abbrev pub IsRightAt : Trace → ℕ → ℕ → ℕ → Type 0
IsRightAt t e place n = (x : Transfer) → how_reached_at t e n ≡ Some (ByTransfer place x) → HasBalancesOfFirst t n x
