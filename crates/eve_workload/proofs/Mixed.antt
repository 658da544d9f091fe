-- Requests cut into parallelBatches.
use Rattle.std.proofs.Common.{◌≡◌, ℕ, zero, suc, ◌<◌, ◌≤◌, ◌==◌, Bool, true, false, ◌&&◌, List, [], ◌∷◌, ◌++◌, map}
use Rattle.std.proofs.Common.{length, sum, All, nat_le, inl, inr, refl, sym, ap, subst, ◌∙◌, arith}
use Rattle.std.specs.Prelude.{negsuc, slice_index_or, IsPermutation, IsFalse, ◌||◌, if◌then◌else◌}
use Rattle.std.specs.List.{list_any, list_all, flat_map, range_with_len}
use Rattle.std.proofs.lemmas.Bool.{or_parts, or_from, and_parts, le-leb, and_from, and_cases, and_left, and_right}
use Rattle.std.proofs.lemmas.Bool.{eq-eqb, ne_eqb, eqb-false}
use Rattle.std.proofs.lemmas.List.{append-nil, length-map, length_push}
use Rattle.std.proofs.lemmas.List.Elements.{All-nil, All-cons, All-head, All-tail}
use Rattle.std.proofs.lemmas.List.Folds.{list_any_none}
use Rattle.std.proofs.lemmas.List.FromFn.{fill_by_all}
use Rattle.std.proofs.lemmas.List.Quantifiers.{all_pairs_push}
use Rattle.std.proofs.lemmas.List.Sorted.{IsPermutation-refl, length_permutation, All-permutation}
use Rattle.eve_smallbank.specs.declared.entry.Kind.{Kind}
use Rattle.eve_smallbank.specs.declared.request.Abort.TheVariants.{NoSuchName, BadAmount}
use Rattle.eve_smallbank.specs.declared.rows.Touched.{Touched}
use Rattle.eve_smallbank.specs.declared.rows.Touched.TheVariants.{Refused}
use Rattle.eve_smallbank.specs.SmallBank.{DepositChecking}
use Rattle.eve_smallbank.specs.Access.{is_write, RowKinds}
use Rattle.eve_smallbank.specs.Touch.{rows_in, knows_names}
use Rattle.eve_grammar.specs.Trace.{Asked}
use Rattle.eve_grammar.specs.Limits.{is_asked, is_batch}
use Rattle.eve_workload.specs.declared.mixer.Mixer.{Mixer}
use Rattle.eve_workload.specs.declared.mixer.Mixer.TheVariants.{First, Whole}
use Rattle.eve_workload.specs.Mixers.{collide, share, rows_touched, conflict, first_fit, cut, batch_with, AreApart}
use Rattle.eve_workload.specs.inner.Mixed.{touched_by}
use Rattle.eve_workload.specs.inner.Groups.{rows_at, share_at, refused_request, listed, AreGroups}
use Rattle.eve_workload.proofs.Cuts.{first_fit_keeps, all_first_fit, first_fit_same, groups_same, sum_of_lengths}

-- ---- each request once

pub cut_keeps : (names : List (List ℕ)) (mixer : Mixer) (requests : List Asked)
    → IsPermutation requests (flat_map (λ group. group) (cut names mixer requests))
cut_keeps names First requests = first_fit_keeps (conflict names) [] requests
cut_keeps names Whole requests = subst (IsPermutation requests) (sym (append-nil requests))
    (IsPermutation-refl requests)

-- ---- conflicts

none_at : {A : Type 0} (p : A → Bool) (xs : List A) (k : ℕ) (d : A) → list_any p xs ≡ false → k < length xs
    → p (slice_index_or xs k d) ≡ false
none_at p [] k d none there = absurd (omega arith)
none_at p (x ∷ xs) zero d none there = (or_parts (p x) (list_any p xs) none).0
none_at p (x ∷ xs) (suc k) d none there = none_at p xs k d (or_parts (p x) (list_any p xs) none).1 (omega arith)

either_write : (a b : Bool) → (a || b) ≡ false → (b || a) ≡ false
either_write a b none = let parts = or_parts a b none in or_from b a parts.1 parts.0

same_row : (m n : ℕ) → (m == n) ≡ false → (n == m) ≡ false
same_row m n apart = ne_eqb n m (λ e. eqb-false m n apart (sym e))

collide_back : (a b : ℕ × Kind) → collide a b ≡ false → collide b a ≡ false
collide_back a b none =
    elim (and_cases (a.0 == b.0) (is_write a.1 || is_write b.1) none) [
      | inl apart ↦ and_left (b.0 == a.0) (is_write b.1 || is_write a.1) (same_row a.0 b.0 apart)
      | inr reads ↦ and_right (b.0 == a.0) (is_write b.1 || is_write a.1)
          (either_write (is_write a.1) (is_write b.1) reads)
    ]

share_back : (a b : RowKinds) → share a b ≡ false → share b a ≡ false
share_back a b none =
    list_any_none (λ row. list_any (collide row) a) b (λ k d there.
    list_any_none (collide (slice_index_or b k d)) a (λ j e there'.
    collide_back (slice_index_or a j e) (slice_index_or b k d)
    (none_at (collide (slice_index_or a j e)) b k d (none_at (λ row. list_any (collide row) b) a j e none there')
    there)))

alone : (names : List (List ℕ)) (a : Asked) → AreApart names (a ∷ [])
alone names a i j d below there = absurd (omega arith)

pub cut_apart : (names : List (List ℕ)) (requests : List Asked) → All (AreApart names) (cut names First requests)
cut_apart names requests =
    all_first_fit (conflict names) (AreApart names) (alone names)
    (λ group item free apart. all_pairs_push (λ a b. IsFalse (conflict names a b)) group item apart
    (λ k d there. share_back (rows_touched names item) (rows_touched names (slice_index_or group k d))
    (none_at (conflict names item) group k d free there)))
    [] requests (All-nil (AreApart names))

-- ---- requests and their indexes

at_index : {A B : Type 0} (f : A → B) (xs : List A) (i : ℕ) (d : A) → f (slice_index_or xs i d)
    ≡ slice_index_or (map f xs) i (f d)
at_index f [] i d = refl
at_index f (x ∷ xs) zero d = refl
at_index f (x ∷ xs) (suc i) d = at_index f xs i d

no_rows : (names : List (List ℕ)) → rows_touched names refused_request ≡ []
no_rows names =
    elim (knows_names names (DepositChecking [] (negsuc 0)))
    as (λ b. rows_in (if b then Refused BadAmount else Refused NoSuchName) ≡ []) [ true ↦ refl | false ↦ refl ]

rows_are : (names : List (List ℕ)) (rs : List Asked) (i : ℕ) → rows_touched names (slice_index_or rs i refused_request)
    ≡ rows_at (map (touched_by names) rs) i
rows_are names [] i = no_rows names
rows_are names (r ∷ rs) zero = refl
rows_are names (r ∷ rs) (suc i) = rows_are names rs i

module _ (names : List (List ℕ)) (rs : List Asked) where
  by_index : ℕ → Asked
  by_index i = slice_index_or rs i refused_request

  all_indexes : (n : ℕ) → length rs ≡ n → map by_index (range_with_len 0 n) ≡ rs
  unfolding by_index
  all_indexes n count = sym (fill_by_all by_index rs n refused_request count (λ k below. refl))

  first_cut_of : (sizes order : List ℕ)
      → AreGroups sizes order (first_fit (share_at (rows_at (map (touched_by names) rs))) []
      (range_with_len 0 (length (map (touched_by names) rs)))) → AreGroups sizes (listed rs order) (cut names First rs)
  unfolding by_index
  first_cut_of sizes order are =
      let n : ℕ = length (map (touched_by names) rs) in
      let clash : ℕ → ℕ → Bool = share_at (rows_at (map (touched_by names) rs)) in
      let same : (i j : ℕ) → conflict names (by_index i) (by_index j) ≡ clash i j =
      λ i j. (λ k. share (rows_are names rs i k) (rows_are names rs j k)) in
      subst (AreGroups sizes (listed rs order))
      (first_fit_same by_index clash (conflict names) same [] (range_with_len 0 n)
      ∙ ap (first_fit (conflict names) []) (all_indexes n (sym (length-map rs (touched_by names)))))
      (groups_same by_index sizes order (first_fit clash [] (range_with_len 0 n)) are)

  module _ (touched : List Touched) (is : touched ≡ map (touched_by names) rs) (sizes order : List ℕ) where
    pub first_cut : AreGroups sizes order
        (first_fit (share_at (rows_at touched)) [] (range_with_len 0 (length touched)))
        → AreGroups sizes (listed rs order) (cut names First rs)
    first_cut are =
        first_cut_of sizes order
        (subst (λ ts. AreGroups sizes order (first_fit (share_at (rows_at ts)) [] (range_with_len 0 (length ts)))) is
        are)

-- what the listed requests touch
pub touched_listed : (f : Asked → Touched) (rs : List Asked) (order : List ℕ)
    → map (λ i. slice_index_or (map f rs) i (f refused_request)) order ≡ map f (listed rs order)
touched_listed f rs [] = refl
touched_listed f rs (i ∷ order) = λ k. sym (at_index f rs i refused_request) k ∷ touched_listed f rs order k

pub batch_is : (sizes : List ℕ) (requests order : List Asked) (groups : List (List Asked)) → requests ≡ order
    → AreGroups sizes order groups → record { sizes = sizes; requests = requests } ≡ batch_with groups
batch_is sizes requests order groups same are =
    λ i. record { sizes = are.sizes_are i; requests = (same ∙ are.order_is) i }

-- one parallelBatch of all requests
pub whole_is : (n : ℕ) (requests : List Asked) → n ≡ length requests → record { sizes = n ∷ []; requests = requests }
    ≡ batch_with (requests ∷ [])
whole_is n requests count = λ i. record { sizes = count i ∷ []; requests = sym (append-nil requests) i }

-- ---- a batch within the limits

HasSome : List Asked → Type 0
HasSome group = nat_le 1 (length group) ≡ true

all_some : (names : List (List ℕ)) (mixer : Mixer) (requests : List Asked) → 1 ≤ length requests
    → All HasSome (cut names mixer requests)
unfolding HasSome
all_some names First requests some =
    all_first_fit (conflict names) HasSome (λ item. refl)
    (λ group item free before. le-leb 1 (length (group ++ item ∷ [])) (omega (arith, length_push group item)))
    [] requests (All-nil HasSome)
all_some names Whole requests some = All-cons HasSome requests [] (le-leb 1 (length requests) some) (All-nil HasSome)

none_empty : (groups : List (List Asked)) → All HasSome groups → list_all (nat_le 1) (map length groups) ≡ true
unfolding HasSome
none_empty [] all = refl
none_empty (group ∷ groups) all =
    and_from (nat_le 1 (length group)) (list_all (nat_le 1) (map length groups)) (All-head HasSome group groups all)
    (none_empty groups (All-tail HasSome group groups all))

some_groups : (groups : List (List Asked)) → 1 ≤ length (flat_map (λ group. group) groups)
    → 1 ≤ length (map length groups)
some_groups [] some = some
some_groups (group ∷ groups) some = omega arith

all_tested : (xs : List Asked) → list_all is_asked xs ≡ true → All (λ x. is_asked x ≡ true) xs
all_tested [] all = All-nil (λ x. is_asked x ≡ true)
all_tested (x ∷ xs) all =
    let parts = and_parts (is_asked x) (list_all is_asked xs) all in
    All-cons (λ y. is_asked y ≡ true) x xs parts.0 (all_tested xs parts.1)

tested_all : (xs : List Asked) → All (λ x. is_asked x ≡ true) xs → list_all is_asked xs ≡ true
tested_all [] all = refl
tested_all (x ∷ xs) all =
    and_from (is_asked x) (list_all is_asked xs) (All-head (λ y. is_asked y ≡ true) x xs all)
    (tested_all xs (All-tail (λ y. is_asked y ≡ true) x xs all))

pub cut_is_right : (names : List (List ℕ)) (mixer : Mixer) (requests : List Asked) → 1 ≤ length requests
    → length requests ≤ 256 → list_all is_asked requests ≡ true → is_batch (batch_with (cut names mixer requests))
    ≡ true
cut_is_right names mixer requests some few all =
    let groups : List (List Asked) = cut names mixer requests in
    let sizes : List ℕ = map length groups in
    let listed : List Asked = flat_map (λ group. group) groups in
    let kept : IsPermutation requests listed = cut_keeps names mixer requests in
    let count = length_permutation requests listed kept in
    let sum_is = sum_of_lengths groups in
    let rest : Bool = (length listed == sum sizes) && list_all is_asked listed in
    and_from (nat_le 1 (length sizes)) (list_all (nat_le 1) sizes && (nat_le (sum sizes) 256 && rest))
    (le-leb 1 (length sizes) (some_groups groups (omega arith)))
    (and_from (list_all (nat_le 1) sizes) (nat_le (sum sizes) 256 && rest)
    (none_empty groups (all_some names mixer requests some))
    (and_from (nat_le (sum sizes) 256) rest (le-leb (sum sizes) 256 (omega arith))
    (and_from (length listed == sum sizes) (list_all is_asked listed) (eq-eqb (length listed) (sum sizes) (sym sum_is))
    (tested_all listed (All-permutation (λ x. is_asked x ≡ true) requests listed kept (all_tested requests all))))))
