-- What is kept of how each number was reached, beside what its batch changed.
use Rattle.std.specs.Prelude.{◌≡◌, ◌<◌, ◌≤◌, ℕ, ℤ, List, [], ◌∷◌, Option, Some, None, All, ⊤, length, map, slice_get}
use Rattle.std.specs.Prelude.{◌-◌}
use Rattle.eve_accounts.specs.declared.limits.TheConstants.{MOST_NAMED_ROWS}
use Rattle.eve_grammar.specs.Trace.{Transfer}
use Rattle.eve_frames.specs.Decoded.{transfer_decoded}
use Rattle.eve_frames.specs.declared.transfer.TransferView.{TransferView}
use Rattle.eve_history.specs.declared.how_reached.HowReached as told
use Rattle.eve_history.specs.declared.how_reached.HowReached.TheVariants as how_reached
use Rattle.eve_chains.specs.Changes.{changes_in_ranges}
use Rattle.eve_chains.specs.Numbered.{HasNumbersTo}
use Rattle.eve_chains.specs.CommittedValues.{Change, Wrote, TransferredValues, Nothing, Settling}
use Rattle.eve_chains.specs.declared.settled.Change as change_kept
use Rattle.eve_chains.specs.declared.settled.Change.TheVariants as change

-- ---- states that were transferred

-- what a transfer frame says, with its offset
abbrev pub transfer_at : TransferView → ℕ × Transfer
transfer_at v = (v.offset, transfer_decoded v)

-- the values that a state has, row by row
abbrev pub values_decoded : TransferView → List ℤ
values_decoded v = map (λ r. r.value) (transfer_decoded v).rows

-- it has this many rows
abbrev pub HasRows : ℕ → TransferView → Type 0
HasRows rows v = length (transfer_decoded v).rows ≡ rows

-- ---- what numbers changed

abbrev pub transferred_values : Option TransferView → Change
transferred_values (Some v) = TransferredValues (values_decoded v)
transferred_values None = Nothing

-- what a number changed, of the states, of how it was reached, and of what its batch changed if it was reached by one
abbrev pub change_in : List TransferView → told.HowReached → List (ℕ × ℤ) → Change
change_in states (how_reached.Attempt i) changes = Wrote changes
change_in states (how_reached.Transfer i) changes = transferred_values (slice_get states i)
change_in states how_reached.Skipped changes = Nothing

-- the same of each number
abbrev pub changes_in : List TransferView → List told.HowReached → List (List (ℕ × ℤ)) → List Change
changes_in states [] css = []
changes_in states (l ∷ ls) [] = []
changes_in states (l ∷ ls) (cs ∷ css) = change_in states l cs ∷ changes_in states ls css

-- the state, if the number was reached by one, is among this many
abbrev pub IsStateAmong : ℕ → told.HowReached → Type 0
IsStateAmong count (how_reached.Attempt i) = ⊤
IsStateAmong count (how_reached.Transfer i) = i < count
IsStateAmong count how_reached.Skipped = ⊤

-- there is one for each number, and each state is there and has all rows
pub record AreWaysReached (rows count : ℕ) (states : List TransferView) (ls : List told.HowReached) : Type 0 where
  pub many : length ls ≡ count
  pub there : All (IsStateAmong (length states)) ls
  pub whole : All (HasRows rows) states
  pub few : rows ≤ MOST_NAMED_ROWS

-- ---- one number

-- what a call says that number n changed
abbrev pub change_decoded : ℕ → change_kept.Change → Change
change_decoded n (change.Wrote ranges) = Wrote (changes_in_ranges (n - 1) ranges.now)
change_decoded n (change.Transferred v) = TransferredValues (values_decoded v)
change_decoded n change.Nothing = Nothing

-- it is of the rows below this number: of some, of all, or of none
abbrev pub IsOfRows : ℕ → ℕ → change_kept.Change → Type 0
IsOfRows rows n (change.Wrote ranges) = All (HasNumbersTo rows n) ranges.now
IsOfRows rows n (change.Transferred v) = HasRows rows v × (rows ≤ MOST_NAMED_ROWS)
IsOfRows rows n change.Nothing = ⊤

-- the rows that a number changed, each with its value, where it isn't all of them
abbrev pub some_rows : Change → Option (List (ℕ × ℤ))
some_rows (Wrote changes) = Some changes
some_rows (TransferredValues balances) = None
some_rows Nothing = Some []

abbrev pub some_rows_of : Option Change → Option (List (ℕ × ℤ))
some_rows_of (Some c) = some_rows c
some_rows_of None = None

-- the same of number n, of the numbers from 1 on
abbrev pub rows_changed_at : Settling → ℕ → Option (List (ℕ × ℤ))
rows_changed_at s n = some_rows_of (slice_get s.numbers (n - 1))
