-- From the balances after one batch to those after the next.
use Rattle.std.proofs.Common.{◌≡◌, ℕ, ℤ, zero, suc, ◌-◌, ◌*◌, ◌<◌, ◌≤◌, nat_lt, true, List, [], ◌∷◌, ◌++◌, map}
use Rattle.std.proofs.Common.{flat_map, pos}
use Rattle.std.proofs.Common.{take, fold, length, slice_get, Option, Some, None, refl, sym, ap, ◌∙◌, arith}
use Rattle.std.specs.List.{AllByRecursion, list_all}
use Rattle.std.proofs.lemmas.Bool.{and_parts, ltb-true}
use Rattle.std.proofs.lemmas.List.Sums.{fold-append}
use Rattle.std.specs.Prelude.{option_map}
use Rattle.std.proofs.lemmas.Option.{slice_get-map}
use Rattle.eve_smallbank.specs.declared.entry.Entry.{Entry}
use Rattle.eve_smallbank.specs.Access.{balance_of_row, bank_of, values_after}
use Rattle.eve_grammar.specs.Trace.{Access, Trace, opening_rows, head_of}
use Rattle.eve_grammar.specs.Limits.{HasLimits, is_entry, row_count}
use Rattle.eve_smallbank.specs.Chain.{values_of}
use Rattle.eve_smallbank.specs.declared.versioned.Versioned.{Versioned}
use Rattle.eve_smallbank.proofs.Members.{all_in}
use Rattle.std.proofs.Math.ListN.{get_or-map}
use Rattle.eve_history.specs.Section.{Placed, HowReached, ByAttempt, ByTransfer, Skipped, came_by}
use Rattle.eve_history.specs.SectionHistory.{ordered, history, names_of, IsRightSection, attempt_by, was_reached}
use Rattle.eve_history.specs.SectionHistory.{is_reached}
use Rattle.eve_history.proofs.Lookups.{get_mapped}
use Rattle.eve_chains.specs.Visible.{transferred_table, rows_after}
use Rattle.eve_chains.specs.Committed.{values_to, bank_after}
use Rattle.eve_chains.specs.Along.{entries_along, AreWithin}
use Rattle.eve_chains.proofs.ChangedRows.{values_same}
use Rattle.eve_chains.proofs.CommittedBatches.{batches_within}
use Rattle.eve_chains.proofs.LinkedPaths.{in_attempts}
use Rattle.eve_chains.proofs.SerialSections.{take_one_more, take_no_more, rows_next}
use Rattle.eve_chains.proofs.BalanceSteps.{advance_along}
use Rattle.eve_chains.specs.CommittedValues.{Change, Settling, change_at, settling, values_with, values_in, is_change}
use Rattle.eve_chains.specs.CommittedValues.{defined, AreBankAfter}

-- ---- one number

one_more : (values : ℕ → ℤ) (numbers : List Change) (n : ℕ) (c : Change) → slice_get numbers n ≡ Some c
    → fold values_with values (take (suc n) numbers) ≡ values_with (fold values_with values (take n numbers)) c
one_more values numbers n c at = ap (fold values_with values) (take_one_more numbers n c at)
    ∙ fold-append values_with values (take n numbers) (c ∷ [])

pub values_next : (s : Settling) (n : ℕ) (c : Change) → slice_get s.numbers n ≡ Some c
    → values_in s (suc n) ≡ values_with (values_in s n) c
unfolding values_in
values_next s n c at = one_more (balance_of_row s.opening) s.numbers n c at

-- the same of a number from 1 on
pub values_then : (s : Settling) (n : ℕ) (c : Change) (old new : ℕ → ℤ) → 1 ≤ n
    → slice_get s.numbers (n - 1) ≡ Some c → old ≡ values_in s (n - 1) → new ≡ values_with old c → new ≡ values_in s n
values_then s n c old new le at so step =
    let is : suc (n - 1) ≡ n = omega arith in
    step ∙ ap (λ (values : ℕ → ℤ). values_with values c) so ∙ sym (values_next s (n - 1) c at)
    ∙ ap (values_in s) is

pub values_opening : (s : Settling) → balance_of_row s.opening ≡ values_in s 0
unfolding values_in
values_opening s = refl

-- ---- the law

map_no_more : {A B : Type 0} (f : A → B) (xs : List A) (n : ℕ) → slice_get xs n ≡ None → take (suc n) (map f xs)
    ≡ take n (map f xs)
map_no_more f xs n none = take_no_more (map f xs) n (slice_get-map f xs n ∙ ap (option_map f) none)

abbrev values_settled : Trace → ℕ → ℕ → ℕ → ℤ
values_settled t e n = fold values_with (balance_of_row (opening_rows t.customers))
    (take n (map (change_at t) (history t e).ways_reached))

-- entries that lie within the rows that there are
rows_below : (rows : ℕ) (es : List Entry) → list_all (is_entry rows) es ≡ true → AllByRecursion (λ e. e.row < rows) es
rows_below rows [] all = tt
rows_below rows (e ∷ es) all =
    let parts = and_parts (is_entry rows e) (list_all (is_entry rows) es) all in
    (ltb-true e.row rows (and_parts (nat_lt e.row rows) _ parts.0).0, rows_below rows es parts.1)

all_below : (rows : ℕ) (xs : List (ℕ × Access)) → AreWithin rows xs
    → AllByRecursion (λ e. e.row < rows) (entries_along xs)
all_below rows [] all = tt
all_below rows (x ∷ xs) all =
    let parts = and_parts (list_all (is_entry rows) x.1.entries)
    (list_all (λ (y : ℕ × Access). list_all (is_entry rows) y.1.entries) xs) all in
    append (λ e. e.row < rows) x.1.entries (entries_along xs) (rows_below rows x.1.entries parts.0)
    (all_below rows xs parts.1)
  where
    append : (P : Entry → Type 0) (xs ys : List Entry) → AllByRecursion P xs → AllByRecursion P ys
        → AllByRecursion P (xs ++ ys)
    append P [] ys xs-all ys-all = ys-all
    append P (x ∷ xs) ys xs-all ys-all = (xs-all.0, append P xs ys xs-all.1 ys-all)

-- what a committed batch changes is what its entries write
changed_is_written : (t : Trace) (e n : ℕ) (p : Placed) (values : ℕ → ℤ) → HasLimits t
    → slice_get (history t e).ways_reached n ≡ Some (ByAttempt p)
    → values_with values (change_at t (ByAttempt p))
    ≡ values_after values (entries_along (ordered p.offset p.attempt))
changed_is_written t e n p values limits at =
    values_same values (entries_along (ordered p.offset p.attempt)) (2 * length t.customers)
    (all_below (2 * length t.customers) (ordered p.offset p.attempt)
    (all_in (λ q. AreWithin (row_count (head_of t)) (ordered q.offset q.attempt)) (batches_within t e limits)
    (in_attempts (history t e).ways_reached n p at)))

-- a state that was transferred has the values of its rows
pub values_transferred : (rows : List Versioned) → balance_of_row (map (λ v. v.value) rows)
    ≡ values_of (transferred_table rows)
values_transferred rows = λ i row. get_or-map (λ (v : Versioned). v.value) rows row
    (record { version = 0; value = pos 0 }) i

stays : (t : Trace) (e n : ℕ) → slice_get (history t e).ways_reached n ≡ None → values_to t e (suc n) ≡ values_to t e n
stays t e n none =
    let values : List HowReached → ℕ → ℤ = λ ls row. (rows_after t (flat_map came_by ls) row).value in
    ap values (take_no_more (history t e).ways_reached n none)

module _ (t : Trace) (e n : ℕ) (limits : HasLimits t) (right : IsRightSection t e)
    (before : values_settled t e n ≡ values_to t e n) where
  changed_next : (l : HowReached) → slice_get (history t e).ways_reached n ≡ Some l
      → values_settled t e (suc n) ≡ values_with (values_to t e n) (change_at t l)
  changed_next l at =
      one_more (balance_of_row (opening_rows t.customers)) (map (change_at t) (history t e).ways_reached) n
      (change_at t l)
      (get_mapped (change_at t) (history t e).ways_reached n l at)
      ∙ ap (λ (values : ℕ → ℤ). values_with values (change_at t l)) before

  one_settled : (o : Option HowReached) → slice_get (history t e).ways_reached n ≡ o
      → values_settled t e (suc n) ≡ values_to t e (suc n)
  one_settled None none =
      ap (fold values_with (balance_of_row (opening_rows t.customers)))
      (map_no_more (change_at t) (history t e).ways_reached n none) ∙ before ∙ sym (stays t e n none)
  one_settled (Some (ByAttempt p)) at =
      changed_next (ByAttempt p) at ∙ changed_is_written t e n p (values_to t e n) limits at
      ∙ sym (advance_along t e n p limits right (ap attempt_by at))
  one_settled (Some (ByTransfer offset x)) at =
      changed_next (ByTransfer offset x) at ∙ values_transferred x.rows
      ∙ ap values_of (sym (rows_next t (history t e).ways_reached n (ByTransfer offset x) at))
  one_settled (Some Skipped) at =
      changed_next Skipped at ∙ ap values_of (sym (rows_next t (history t e).ways_reached n Skipped at))

settled_are : (t : Trace) (e n : ℕ) → HasLimits t → IsRightSection t e → values_settled t e n ≡ values_to t e n
settled_are t e zero limits right = refl
settled_are t e (suc n) limits right = one_settled t e n limits right (settled_are t e n limits right)
    (slice_get (history t e).ways_reached n) refl

-- there are balances after a number that was reached
pub reached_is_defined : (t : Trace) (e n : ℕ) → defined (settling t e) n ≡ is_reached t e n
unfolding settling
reached_is_defined t e zero = refl
reached_is_defined t e (suc n) =
    ap is_change (slice_get-map (change_at t) (history t e).ways_reached n)
    ∙ by (slice_get (history t e).ways_reached n)
  where
    by : (o : Option HowReached) → is_change (option_map (change_at t) o) ≡ was_reached o
    by (Some (ByAttempt p)) = refl
    by (Some (ByTransfer at x)) = refl
    by (Some Skipped) = refl
    by None = refl

pub settled_values : (t : Trace) (e n : ℕ) → HasLimits t → IsRightSection t e → values_in (settling t e) n
    ≡ values_to t e n
unfolding values_in settling
settled_values t e n limits right = settled_are t e n limits right

-- balances with those values are the bank after batch n
pub banks_are : (s : Settling) (n : ℕ) (balances : List ℤ) → balance_of_row balances ≡ values_in s n
    → AreBankAfter s n balances
unfolding bank_after
banks_are s n balances values = λ t e limits right is.
    ap (bank_of (names_of t)) (values ∙ ap (λ (v : Settling). values_in v n) is ∙ settled_values t e n limits right)
