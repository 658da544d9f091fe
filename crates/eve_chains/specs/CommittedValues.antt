-- What a replica's committed batches wrote, and the balances after each. docs/MODEL.md, "Bank and replies after a
-- committed batch".
use Rattle.std.specs.Prelude.{◌≡◌, ◌<◌, ◌*◌, ℕ, ℤ, zero, suc, Bool, true, false, List, length, map, take, fold}
use Rattle.std.specs.Prelude.{Option, Some, None, slice_get}
use Rattle.eve_smallbank.specs.Access.{balance_of_row, bank_of}
use Rattle.eve_grammar.specs.Trace.{Trace, opening_rows}
use Rattle.eve_grammar.specs.Frames.{sections_of}
use Rattle.eve_grammar.specs.Limits.{HasLimits}
use Rattle.eve_history.specs.Section.{HowReached, ByAttempt, ByTransfer, Skipped}
use Rattle.eve_history.specs.SectionHistory.{history, ordered, names_of, IsRightSection}
use Rattle.eve_chains.specs.Along.{entries_along}
use Rattle.eve_chains.specs.Changes.{changes_below, values_changed}
use Rattle.eve_chains.specs.Committed.{bank_after}

-- what a number changed
pub data Change : Type 0 where
  Wrote : List (ℕ × ℤ) → Change  -- the rows that its batch wrote, rising, each with the value after its last write
  TransferredValues : List ℤ → Change  -- all rows: a state was transferred
  Nothing : Change  -- no row: the number was skipped

-- the opening balances by row, and what each number from 1 on changed
pub record Settling : Type 0 where
  pub opening : List ℤ
  pub numbers : List Change

-- what changed where a number was reached so
abbrev pub change_at : Trace → HowReached → Change
change_at t (ByAttempt p) =
    Wrote (changes_below (2 * length t.customers) (entries_along (ordered p.offset p.attempt)))
change_at t (ByTransfer at x) = TransferredValues (map (λ v. v.value) x.rows)
change_at t Skipped = Nothing

-- what replica e committed
unfoldable pub settling : Trace → ℕ → Settling
settling t e = record {
  opening = opening_rows t.customers;
  numbers = map (change_at t) (history t e).ways_reached;
}

-- what each replica committed, in the order of the replicas
unfoldable pub settlings : Trace → List Settling
settlings t = map (λ s. settling t s.0) (sections_of t)

-- values of rows, after a change
abbrev pub values_with : (ℕ → ℤ) → Change → ℕ → ℤ
values_with values (Wrote changes) = values_changed values changes
values_with values (TransferredValues balances) = balance_of_row balances
values_with values Nothing = values

-- the balances after number n, by row: the opening balances with what the numbers up to n changed
unfoldable pub values_in : Settling → ℕ → ℕ → ℤ
values_in s n = fold values_with (balance_of_row s.opening) (take n s.numbers)

abbrev pub is_change : Option Change → Bool
is_change (Some (Wrote changes)) = true
is_change (Some (TransferredValues balances)) = true
is_change (Some Nothing) = false
is_change None = false

-- there are balances after number n: it is 0, or it is there and wasn't skipped
abbrev pub defined : Settling → ℕ → Bool
defined s zero = true
defined s (suc n) = is_change (slice_get s.numbers n)

-- after number n of the one and of the other each row has the same balance in both
pub record HaveSameBalances (s other : Settling) (n : ℕ) : Type 0 where
  pub rows : length other.opening ≡ length s.opening
  pub values : (row : ℕ) → row < length s.opening → values_in s n row ≡ values_in other n row

-- the balances are the bank after batch n of each replica with a right section whose batches these are
abbrev pub AreBankAfter : Settling → ℕ → List ℤ → Type 0
AreBankAfter s n balances =
    (t : Trace) (e : ℕ) → HasLimits t → IsRightSection t e → s ≡ settling t e
    → bank_of (names_of t) (balance_of_row balances) ≡ bank_after t e n
