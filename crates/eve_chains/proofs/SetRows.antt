-- Balances in which changed rows are set one after another, and compared one after another.
use Rattle.std.proofs.Common.{◌≡◌, ℕ, ℤ, zero, suc, ◌+◌, ◌<◌, ◌≤◌, ◌==◌, Bool, true, false, cond, ◌&&◌, List, [], ◌∷◌}
use Rattle.std.proofs.Common.{◌++◌, map}
use Rattle.std.proofs.Common.{take, drop, set, get_or, slice_get, Some, length, refl, sym, ap, ◌∙◌, inl, inr, arith}
use Rattle.std.proofs.Common.{take-append-drop, append-nil, pos}
use Rattle.std.specs.Prelude.{All}
use Rattle.std.proofs.lemmas.Grind.{flat_map-append}
use Rattle.std.specs.List.{list_all}
use Rattle.std.proofs.lemmas.Bool.{cases_eq, eq-eqb, ne_eqb}
use Rattle.std.proofs.lemmas.List.{map-append, take_more, get_or-set_same, get_or-set_other}
use Rattle.std.proofs.lemmas.List.Folds.{list_all-append}
use Rattle.std.proofs.lemmas.Option.{same_Some}
use Rattle.std.proofs.lemmas.List.Sums.{fold-append}
use Rattle.eve_smallbank.specs.Access.{balance_of_row}
use Rattle.eve_chains.specs.declared.changed.Changed.{Changed}
use Rattle.eve_chains.specs.declared.numbered.Numbered.{Numbered}
use Rattle.eve_chains.specs.Changes.{change_of, changes_at, changes_in_ranges, values_changed}
use Rattle.eve_chains.specs.Numbered.{HasNumbersTo, is_same_where_changed}

and-false : (t : Bool) → t && false ≡ false
and-false true = refl
and-false false = refl

-- one row is set
row_set : (xs : List ℤ) (row : ℕ) (z : ℤ) → row < length xs
    → balance_of_row (set xs row z) ≡ (λ r. cond (row == r) z (balance_of_row xs r))
row_set xs row z lt = λ i r. at r i
  where
    at : (r : ℕ) → balance_of_row (set xs row z) r ≡ cond (row == r) z (balance_of_row xs r)
    at r = elim (cases_eq row r) [
      | inl same ↦ ap (λ (k : ℕ). get_or (set xs row z) k (pos 0)) (sym same)
          ∙ get_or-set_same xs row z (pos 0) lt ∙ ap (λ (b : Bool). cond b z (balance_of_row xs r))
          (sym (eq-eqb row r same))
      | inr other ↦ get_or-set_other xs row r z (pos 0) (λ same. other (sym same))
          ∙ ap (λ (b : Bool). cond b z (balance_of_row xs r)) (sym (ne_eqb row r other))
    ]

module _ (cs : List Changed) (i : ℕ) (c : Changed) (lt : i < length cs) (is : c ≡ get_or cs i c) where
  one_more : map change_of (take (i + 1) cs) ≡ map change_of (take i cs) ++ change_of c ∷ []
  one_more = ap (map change_of) (take_more cs i c lt ∙ ap (λ (x : Changed). take i cs ++ x ∷ []) (sym is))
      ∙ map-append change_of (take i cs) (c ∷ [])

  -- one change more is set
  pub set_more : (values : ℕ → ℤ) (old new : List ℤ) → balance_of_row old ≡ values_changed values
      (map change_of (take i cs))
      → c.row < length old → new ≡ set old c.row c.value
      → balance_of_row new ≡ values_changed values (map change_of (take (i + 1) cs))
  set_more values old new before there now =
      let step : (ℕ → ℤ) → ℕ → ℤ = λ v r. cond (c.row == r) c.value (v r) in
      ap balance_of_row now ∙ row_set old c.row c.value there ∙ ap step before
      ∙ sym (ap (values_changed values) one_more
      ∙ fold-append (λ now x r. cond (x.0 == r) x.1 (now r)) values (map change_of (take i cs)) (change_of c ∷ []))

  module _ (b d : List ℤ) where
    -- one more is the same
    pub same_more : list_all (is_same_where_changed b d) (map change_of (take i cs)) ≡ true
        → is_same_where_changed b d (change_of c) ≡ true
        → list_all (is_same_where_changed b d) (map change_of (take (i + 1) cs)) ≡ true
    same_more before same =
        ap (list_all (is_same_where_changed b d)) one_more
        ∙ list_all-append (is_same_where_changed b d) (map change_of (take i cs)) (change_of c ∷ [])
        ∙ (λ k. before k && (same k && true))

    -- one isn't
    pub not_same : is_same_where_changed b d (change_of c) ≡ false
        → list_all (is_same_where_changed b d) (map change_of cs) ≡ false
    not_same other =
        ap (λ (xs : List Changed). list_all (is_same_where_changed b d) (map change_of xs))
        (sym (take-append-drop (i + 1) cs))
        ∙ ap (list_all (is_same_where_changed b d))
        (map-append change_of (take (i + 1) cs) (drop (i + 1) cs)
        ∙ ap (λ (xs : List (ℕ × ℤ)). xs ++ map change_of (drop (i + 1) cs)) one_more)
        ∙ list_all-append (is_same_where_changed b d) (map change_of (take i cs) ++ change_of c ∷ [])
        (map change_of (drop (i + 1) cs))
        ∙ ap (λ (t : Bool). t && list_all (is_same_where_changed b d) (map change_of (drop (i + 1) cs)))
        (list_all-append (is_same_where_changed b d) (map change_of (take i cs)) (change_of c ∷ [])
        ∙ ap (λ (t : Bool). list_all (is_same_where_changed b d) (map change_of (take i cs)) && (t && true)) other
        ∙ and-false (list_all (is_same_where_changed b d) (map change_of (take i cs))))

-- ---- range after range

-- ranges that reach a number reach those before it
pub reach_fewer : (rows count n : ℕ) (xs : List Numbered) → All (HasNumbersTo rows count) xs → n ≤ count
    → All (HasNumbersTo rows n) xs
reach_fewer rows count n xs all le i d lt =
    let own = all i d lt in record { order = own.order; there = omega (arith, own.there, le) }

module _ (n : ℕ) (xs : List Numbered) (i : ℕ) (x : Numbered) (lt : i < length xs) (is : x ≡ get_or xs i x) where
  range_more : changes_in_ranges n (take (i + 1) xs) ≡ changes_in_ranges n (take i xs) ++ changes_at n x
  range_more = ap (changes_in_ranges n) (take_more xs i x lt ∙ ap (λ (y : Numbered). take i xs ++ y ∷ []) (sym is))
      ∙ flat_map-append (changes_at n) (take i xs) (x ∷ [])
      ∙ ap (λ (cs : List (ℕ × ℤ)). changes_in_ranges n (take i xs) ++ cs) (append-nil (changes_at n x))

  -- the rows of one range more are set
  pub range_set : (values old new : ℕ → ℤ) (cs : List (ℕ × ℤ))
      → old ≡ values_changed values (changes_in_ranges n (take i xs)) → cs ≡ changes_at n x → new ≡ values_changed old
      cs
      → new ≡ values_changed values (changes_in_ranges n (take (i + 1) xs))
  range_set values old new cs before own now =
      now ∙ (λ k. values_changed (before k) (own k))
      ∙ sym (ap (values_changed values) range_more
      ∙ fold-append (λ now c r. cond (c.0 == r) c.1 (now r)) values (changes_in_ranges n (take i xs)) (changes_at n x))

  module _ (b d : List ℤ) (cs : List (ℕ × ℤ)) (own : cs ≡ changes_at n x) where
    -- those of one more are the same
    pub range_same : list_all (is_same_where_changed b d) (changes_in_ranges n (take i xs)) ≡ true
        → list_all (is_same_where_changed b d) cs ≡ true
        → list_all (is_same_where_changed b d) (changes_in_ranges n (take (i + 1) xs)) ≡ true
    range_same before same =
        ap (list_all (is_same_where_changed b d)) range_more
        ∙ list_all-append (is_same_where_changed b d) (changes_in_ranges n (take i xs)) (changes_at n x)
        ∙ (λ k. before k && (ap (list_all (is_same_where_changed b d)) (sym own) ∙ same) k)

    -- those of one aren't
    pub range_other : list_all (is_same_where_changed b d) cs ≡ false
        → list_all (is_same_where_changed b d) (changes_in_ranges n xs) ≡ false
    range_other other =
        let f = is_same_where_changed b d in
        let prefix = changes_in_ranges n (take i xs) in
        let back = changes_in_ranges n (drop (i + 1) xs) in
        ap (λ (ys : List Numbered). list_all f (changes_in_ranges n ys)) (sym (take-append-drop (i + 1) xs))
        ∙ ap (list_all f) (flat_map-append (changes_at n) (take (i + 1) xs) (drop (i + 1) xs)
        ∙ ap (λ (ys : List (ℕ × ℤ)). ys ++ back) range_more)
        ∙ list_all-append f (prefix ++ changes_at n x) back
        ∙ ap (λ (t : Bool). t && list_all f back)
        (list_all-append f prefix (changes_at n x)
        ∙ ap (λ (t : Bool). list_all f prefix && t) (ap (list_all f) (sym own) ∙ other) ∙ and-false (list_all f prefix))

-- what is lent of a row
pub lent_is : (xs : List ℤ) (row : ℕ) (z : ℤ) → slice_get xs row ≡ Some z → balance_of_row xs row ≡ z
lent_is [] row z at = absurd cc
lent_is (x ∷ xs) zero z at = same_Some x z at
lent_is (x ∷ xs) (suc row) z at = lent_is xs row z at
