-- Two replicas that had the same balances before a batch have the same after it where they have the same in the rows
-- that the batch changed in the one or in the other.
use Rattle.std.proofs.Common.{◌≡◌, ℕ, ℤ, zero, suc, ◌-◌, ◌<◌, ◌≤◌, ◌==◌, Bool, true, false, cond, List, [], ◌∷◌, length}
use Rattle.std.proofs.Common.{slice_get, get_or, Option, Some, None, refl, sym, subst, ap, ◌∙◌, inl, inr, ◌⊎◌, arith}
use Rattle.std.specs.List.{list_all}
use Rattle.std.proofs.lemmas.Bool.{and_parts, eqb-true}
use Rattle.std.proofs.lemmas.Bool.Decides.{Decides-int_eq}
use Rattle.std.proofs.lemmas.List.{same_lists}
use Rattle.std.proofs.lemmas.Option.{same_Some}
use Rattle.eve_smallbank.specs.Access.{balance_of_row}
use Rattle.eve_chains.specs.Changes.{values_changed}
use Rattle.eve_chains.specs.Numbered.{is_same_where_changed}
use Rattle.eve_chains.specs.ReachedChanges.{some_rows, some_rows_of, rows_changed_at}
use Rattle.eve_chains.specs.CommittedValues.{Change, Wrote, TransferredValues, Nothing, Settling, values_with}
use Rattle.eve_chains.specs.CommittedValues.{values_in}
use Rattle.eve_chains.specs.CommittedValues.{HaveSameBalances}
use Rattle.eve_chains.proofs.LinkedPaths.{none≢some}
use Rattle.eve_chains.proofs.BankSteps.{values_next}

-- ---- the rows that are changed

module _ (b c : List ℤ) where
  -- what is changed is the same in both, or the changes leave the row
  kept_or_same : (values : ℕ → ℤ) (cs : List (ℕ × ℤ)) (row : ℕ) → list_all (is_same_where_changed b c) cs ≡ true
      → (values_changed values cs row ≡ values row) ⊎ (balance_of_row b row ≡ balance_of_row c row)
  kept_or_same values [] row same = inl refl
  kept_or_same values (x ∷ cs) row same =
      let parts = and_parts (is_same_where_changed b c x) (list_all (is_same_where_changed b c) cs) same in
      let next : ℕ → ℤ = λ r. cond (x.0 == r) x.1 (values r) in
      first (x.0 == row) refl next parts.0 (kept_or_same next cs row parts.1) refl
    where
      first : (w : Bool) → (x.0 == row) ≡ w → (next : ℕ → ℤ) → is_same_where_changed b c x ≡ true
          → (values_changed next cs row ≡ next row) ⊎ (balance_of_row b row ≡ balance_of_row c row)
          → next row ≡ cond (x.0 == row) x.1 (values row)
          → (values_changed next cs row ≡ values row) ⊎ (balance_of_row b row ≡ balance_of_row c row)
      first true changes next here rest is = inr
          (subst (λ (r : ℕ). balance_of_row b r ≡ balance_of_row c r) (eqb-true x.0 row changes)
          ((Decides-int_eq (balance_of_row b x.0) (balance_of_row c x.0)).0 here))
      first false changes next here rest is = elim rest [
        | inl kept ↦ inl (kept ∙ is ∙ ap (λ (w : Bool). cond w x.1 (values row)) changes)
        | inr its ↦ inr its
      ]

  -- after the changes of the one and of the other, from the same values
  same_row : (v w : ℕ → ℤ) (cs ds : List (ℕ × ℤ)) (row : ℕ) → list_all (is_same_where_changed b c) cs ≡ true
      → list_all (is_same_where_changed b c) ds ≡ true → v row ≡ w row → balance_of_row b row ≡ values_changed v cs row
      → balance_of_row c row ≡ values_changed w ds row → balance_of_row b row ≡ balance_of_row c row
  same_row v w cs ds row own its before after other =
      elim (kept_or_same v cs row own) [
        | inl kept ↦ elim (kept_or_same w ds row its) [
          | inl stays ↦ after ∙ kept ∙ before ∙ sym stays ∙ sym other
          | inr same ↦ same
        ]
        | inr same ↦ same
      ]

-- ---- the same lists have the same rows

all_same : (b : List ℤ) (cs : List (ℕ × ℤ)) → list_all (is_same_where_changed b b) cs ≡ true
all_same b [] = refl
all_same b (x ∷ cs) =
    rw ((Decides-int_eq (balance_of_row b x.0) (balance_of_row b x.0)).1 refl) (all_same b cs)

-- ---- a batch of the one and of the other

-- the balances after batch n, row by row, of those after the batch before and its changes
after_batch : (s : Settling) (n : ℕ) (cs : List (ℕ × ℤ)) (b : List ℤ) → 1 ≤ n → rows_changed_at s n ≡ Some cs
    → balance_of_row b ≡ values_in s n → balance_of_row b ≡ values_changed (values_in s (n - 1)) cs
after_batch s n cs b one at after =
    let is : n ≡ suc (n - 1) = omega arith in
    let found = changed_by (slice_get s.numbers (n - 1)) cs at in
    after ∙ ap (values_in s) is ∙ values_next s (n - 1) found.0 found.1
    ∙ values_of_some found.0 cs (values_in s (n - 1)) found.2
  where
    changed_by : (o : Option Change) (ds : List (ℕ × ℤ)) → some_rows_of o ≡ Some ds
        → (c : Change) × (o ≡ Some c) × (some_rows c ≡ Some ds)
    changed_by (Some c) ds is = (c, refl, is)
    changed_by None ds is = none≢some ds is

    values_of_some : (c : Change) (ds : List (ℕ × ℤ)) (values : ℕ → ℤ) → some_rows c ≡ Some ds
        → values_with values c ≡ values_changed values ds
    values_of_some (Wrote changes) ds values is = ap (values_changed values) (same_Some changes ds is)
    values_of_some (TransferredValues balances) ds values is = none≢some ds is
    values_of_some Nothing ds values is = ap (values_changed values) (same_Some [] ds is)

-- what was compared of the batch: its changes, and whether both have the same in the rows that it changes
pub record IsCompared (s : Settling) (n : ℕ) (b c : List ℤ) (found : Bool) : Type 0 where
  pub cs : List (ℕ × ℤ)
  pub at : rows_changed_at s n ≡ Some cs
  pub is : found ≡ list_all (is_same_where_changed b c) cs

-- the same in both
pub same_again : (s u : Settling) (n : ℕ) (b c : List ℤ) (own its : Bool) → 1 ≤ n → length b ≡ length s.opening
    → length c ≡ length b → balance_of_row b ≡ values_in s n → balance_of_row c ≡ values_in u n
    → HaveSameBalances s u (n - 1) → IsCompared s n b c own → IsCompared u n b c its
    → own ≡ true → its ≡ true → b ≡ c
same_again s u n b c own its one rows many after other before mine yours here there =
    same_lists b c (sym many) (λ row d lt.
    read b row d lt ∙ same_row b c (values_in s (n - 1)) (values_in u (n - 1)) mine.cs
    yours.cs row (sym mine.is ∙ here) (sym yours.is ∙ there) (before.values row (omega arith))
    (λ i. after_batch s n mine.cs b one mine.at after i row) (λ i. after_batch u n yours.cs c one yours.at other i row)
    ∙ sym (read c row d (omega arith)))
  where
    read : (xs : List ℤ) (i : ℕ) (d : ℤ) → i < length xs → get_or xs i d ≡ balance_of_row xs i
    read [] i d lt = absurd (omega arith)
    read (z ∷ xs) zero d lt = refl
    read (z ∷ xs) (suc i) d lt = read xs i d (omega arith)

-- where the balances are the same, so are those of the rows that a batch changes
pub changed_alike : (s : Settling) (n : ℕ) (b c : List ℤ) (found : Bool)
    → IsCompared s n b c found → b ≡ c → found ≡ true
changed_alike s n b c found told same =
    told.is ∙ (λ i. list_all (is_same_where_changed b (sym same i)) told.cs)
    ∙ all_same b told.cs
