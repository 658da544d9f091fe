-- Items put into groups.
use Rattle.std.proofs.Common.{◌≡◌, ◌≢◌, ℕ, zero, suc, ◌+◌, ◌<◌, ◌≤◌, Bool, true, false, List, [], ◌∷◌, ◌++◌, map}
use Rattle.std.proofs.Common.{length, sum, Some, inl, inr, refl, sym, ap, ◌∙◌, arith}
use Rattle.std.specs.Prelude.{◌==◌, ◌&&◌, ◌||◌, if◌then◌else◌, slice_get, slice_set, slice_index_or}
use Rattle.std.specs.List.{list_any, flat_map}
use Rattle.std.proofs.lemmas.Bool.{cases_eq, cases_lt, eq-eqb, ne_eqb, both_ways}
use Rattle.std.proofs.Math.Bool.{and-true, and-false, or-false}
use Rattle.std.proofs.lemmas.List.{append-nil, length_push, get_or_past}
use Rattle.std.proofs.lemmas.List.Concat.{flat_map-append}
use Rattle.std.proofs.lemmas.List.Folds.{list_any-append}
use Rattle.std.proofs.lemmas.List.Sorted.{length_permutation}
use Rattle.eve_smallbank.specs.declared.entry.Kind.{Kind}
use Rattle.eve_smallbank.specs.Access.{RowKinds}
use Rattle.eve_grammar.proofs.Lists.{get_in_prefix}
use Rattle.eve_workload.specs.declared.seats.Seat.{Seat}
use Rattle.eve_workload.specs.Mixers.{collide, share, placed}
use Rattle.eve_workload.specs.inner.Seats.{group_at, IsSeating}
use Rattle.eve_workload.specs.inner.Cut.{one_more}
use Rattle.eve_workload.proofs.Cuts.{placed_keeps, sum_of_lengths}
use Rattle.eve_workload.proofs.ListReads.{get_behind, get_either, get_only}
use Rattle.eve_workload.proofs.Parts.{within_sum}

-- an item at the end of the group with this number, or in a new one at the end
pub put : List (List ℕ) → ℕ → ℕ → List (List ℕ)
put [] g item = (item ∷ []) ∷ []
put (group ∷ groups) zero item = (group ++ item ∷ []) ∷ groups
put (group ∷ groups) (suc g) item = group ∷ put groups g item

pub put_same : (groups : List (List ℕ)) (g item : ℕ) → g ≤ length groups → group_at (put groups g item) g
    ≡ group_at groups g ++ item ∷ []
unfolding put
put_same [] zero item within = refl
put_same [] (suc g) item within = absurd (omega arith)
put_same (group ∷ groups) zero item within = refl
put_same (group ∷ groups) (suc g) item within = put_same groups g item (omega arith)

pub put_other : (groups : List (List ℕ)) (g item k : ℕ) → g ≤ length groups → k ≢ g → group_at (put groups g item) k
    ≡ group_at groups k
unfolding put
put_other [] zero item zero within apart = absurd (apart refl)
put_other [] zero item (suc k) within apart = refl
put_other [] (suc g) item k within apart = absurd (omega arith)
put_other (group ∷ groups) zero item zero within apart = absurd (apart refl)
put_other (group ∷ groups) zero item (suc k) within apart = refl
put_other (group ∷ groups) (suc g) item zero within apart = refl
put_other (group ∷ groups) (suc g) item (suc k) within apart = put_other groups g item k (omega arith)
    (λ e. apart (ap suc e))

pub put_sizes : (groups : List (List ℕ)) (g item : ℕ) → one_more (map length groups) g ≡ map length (put groups g item)
unfolding put
put_sizes [] g item = refl
put_sizes (group ∷ groups) zero item = ap (λ n. n ∷ map length groups) (sym (length_push group item))
put_sizes (group ∷ groups) (suc g) item = ap (λ ns. length group ∷ ns) (put_sizes groups g item)

-- the sizes of groups, in code
pub one_more_behind : (sizes : List ℕ) (g : ℕ) → g ≡ length sizes → sizes ++ 1 ∷ [] ≡ one_more sizes g
one_more_behind [] g is = refl
one_more_behind (size ∷ sizes) zero is = absurd (omega arith)
one_more_behind (size ∷ sizes) (suc g) is = ap (λ ns. size ∷ ns) (one_more_behind sizes g (omega arith))

pub one_more_inside : (sizes : List ℕ) (g had : ℕ) → had ≡ slice_index_or sizes g had → g < length sizes
    → slice_set sizes g (had + 1) ≡ one_more sizes g
one_more_inside [] g had is there = absurd (omega arith)
one_more_inside (size ∷ sizes) zero had is there = ap (λ n. (n + 1) ∷ sizes) is
one_more_inside (size ∷ sizes) (suc g) had is there =
    ap (λ ns. size ∷ ns) (one_more_inside sizes g had is (omega arith))

pub put_count : (groups : List (List ℕ)) (g item : ℕ) → length (put groups g item) ≤ length groups + 1
unfolding put
put_count [] g item = omega arith
put_count (group ∷ groups) zero item = omega arith
put_count (group ∷ groups) (suc g) item = let rest = put_count groups g item in omega (arith, rest)

size_at : (groups : List (List ℕ)) (g : ℕ) → slice_index_or (map length groups) g 0 ≡ length (group_at groups g)
size_at [] g = refl
size_at (group ∷ groups) zero = refl
size_at (group ∷ groups) (suc g) = size_at groups g

-- ---- the first group that takes an item

module _ (clash : ℕ → ℕ → Bool) where
  -- the first group that holds none in conflict takes the item
  pub placed_first : (groups : List (List ℕ)) (item g : ℕ)
      → ((k : ℕ) → k < g → list_any (clash item) (group_at groups k) ≡ true) → list_any (clash item) (group_at groups g)
      ≡ false → placed clash groups item ≡ put groups g item
  unfolding put
  placed_first [] item g before free = refl
  placed_first (group ∷ groups) item zero before free =
      ap (λ b. if b then group ∷ placed clash groups item else (group ++ item ∷ []) ∷ groups) free
  placed_first (group ∷ groups) item (suc g) before free =
      ap (λ b. if b then group ∷ placed clash groups item else (group ++ item ∷ []) ∷ groups) (before 0 (omega arith))
      ∙ ap (λ gs. group ∷ gs) (placed_first groups item g (λ k below. before (suc k) (omega arith)) free)

  -- it is one of the groups, or the next
  pub first_within : (groups : List (List ℕ)) (item g : ℕ)
      → ((k : ℕ) → k < g → list_any (clash item) (group_at groups k) ≡ true) → g ≤ length groups
  first_within groups item g before =
      elim (cases_lt (length groups) g) [
        | inl past ↦
            absurd (both_ways (list_any (clash item) (group_at groups (length groups)))
            (ap (list_any (clash item)) (get_or_past groups (length groups) [] (omega arith)))
            (before (length groups) past))
        | inr within ↦ within
      ]

-- ---- rows in conflict

any_either : {A : Type 0} (p q : A → Bool) (xs : List A) → list_any (λ x. p x || q x) xs
    ≡ (list_any p xs || list_any q xs)
any_either p q [] = refl
any_either p q (x ∷ xs) = ap (λ b. (p x || q x) || b) (any_either p q xs)
    ∙ swapped (p x) (q x) (list_any p xs) (list_any q xs) where
      swapped : (a b c d : Bool) → ((a || b) || (c || d)) ≡ ((a || c) || (b || d))
      swapped true b c d = refl
      swapped false true true d = refl
      swapped false true false d = refl
      swapped false false c d = refl

none_any : {A : Type 0} (xs : List A) → list_any (λ x. false) xs ≡ false
none_any [] = refl
none_any (x ∷ xs) = none_any xs

-- some row is in conflict with a row of the group where some request of it shares one
pub any_shared : (touched : RowKinds) (rows : ℕ → RowKinds) (group : List ℕ)
    → list_any (λ row. list_any (collide row) (flat_map rows group)) touched
    ≡ list_any (λ j. share touched (rows j)) group
any_shared touched rows [] = none_any touched
any_shared touched rows (j ∷ group) =
    (λ i. list_any (λ row. list_any-append (collide row) (rows j) (flat_map rows group) i) touched)
    ∙ any_either (λ row. list_any (collide row) (rows j)) (λ row. list_any (collide row) (flat_map rows group)) touched
    ∙ ap (λ b. share touched (rows j) || b) (any_shared touched rows group)

-- a row is in conflict in a group, once an item was put into one
module _ (rows : ℕ → RowKinds) (groups : List (List ℕ)) (g item : ℕ) (within : g ≤ length groups) where
  pub bars_more : (row : ℕ × Kind) (k : ℕ)
      → (list_any (collide row) (flat_map rows (group_at groups k)) || (list_any (collide row) (rows item) && (k == g)))
      ≡ list_any (collide row) (flat_map rows (group_at (put groups g item) k))
  bars_more row k =
      let before : Bool = list_any (collide row) (flat_map rows (group_at groups k)) in
      elim (cases_eq k g) [
        | inl same ↦
            ap (λ b. before || (list_any (collide row) (rows item) && b)) (eq-eqb k g same)
            ∙ ap (λ b. before || b) (and-true (list_any (collide row) (rows item)))
            ∙ ap (λ xs. before || list_any (collide row) xs) (sym (append-nil (rows item)))
            ∙ sym (list_any-append (collide row) (flat_map rows (group_at groups k)) (rows item ++ []))
            ∙ ap (list_any (collide row)) (sym (flat_map-append rows (group_at groups k) (item ∷ [])))
            ∙ ap (λ n. list_any (collide row) (flat_map rows (group_at groups n ++ item ∷ []))) same
            ∙ ap (λ group. list_any (collide row) (flat_map rows group)) (sym (put_same groups g item within))
            ∙ ap (λ n. list_any (collide row) (flat_map rows (group_at (put groups g item) n))) (sym same)
        | inr apart ↦
            ap (λ b. before || (list_any (collide row) (rows item) && b)) (ne_eqb k g apart)
            ∙ ap (λ b. before || b) (and-false (list_any (collide row) (rows item))) ∙ or-false before
            ∙ ap (λ group. list_any (collide row) (flat_map rows group)) (sym (put_other groups g item k within apart))
      ]

-- ---- seats

module _ (sizes : List ℕ) (seats : List Seat) (groups : List (List ℕ)) (seating : IsSeating sizes seats groups) where
  pub size_small : (g : ℕ) → slice_index_or sizes g 0 ≤ length seats
  size_small g = let most = within_sum sizes g in
      let whole = ap sum seating.sizes_are ∙ sum_of_lengths groups ∙ seating.count in omega (arith, most, whole)

  module _ (clash : ℕ → ℕ → Bool) (g : ℕ) (within : g ≤ length groups)
      (first : placed clash groups (length seats) ≡ put groups g (length seats)) where
    -- the next item
    abbrev item : ℕ
    item = length seats

    abbrev seat : Seat
    seat = record { group = g; place = slice_index_or sizes g 0 }

    place_is : slice_index_or sizes g 0 ≡ length (group_at groups g)
    place_is = ap (λ ss. slice_index_or ss g 0) seating.sizes_are ∙ size_at groups g

    pub seated_more : IsSeating (one_more sizes g) (seats ++ seat ∷ []) (put groups g item)
    seated_more = record {
      sizes_are = ap (λ ss. one_more ss g) seating.sizes_are ∙ put_sizes groups g item;
      count =
          (let kept = length_permutation (item ∷ flat_map (λ group. group) groups)
          (flat_map (λ group. group) (placed clash groups item)) (placed_keeps clash groups item) in
          let put_flat = ap (λ gs. length (flat_map (λ group. group) gs)) first in
          omega (arith, kept, put_flat, seating.count, length_push seats seat));
      sits = sits;
      alone = alone;
    } where
      sits : (other : ℕ) (s : Seat) → slice_get (seats ++ seat ∷ []) other ≡ Some s
          → slice_get (group_at (put groups g item) s.group) s.place ≡ Some other
      sits other s has =
          elim (get_either seats (seat ∷ []) other s has) [
            | inl old ↦
                elim (cases_eq s.group g) [
                  | inl same ↦
                      ap (λ n. slice_get (group_at (put groups g item) n) s.place) same
                      ∙ ap (λ group. slice_get group s.place) (put_same groups g item within)
                      ∙ get_in_prefix (group_at groups g) (item ∷ []) s.place other
                      (ap (λ n. slice_get (group_at groups n) s.place) (sym same) ∙ seating.sits other s old)
                  | inr apart ↦ ap (λ group. slice_get group s.place) (put_other groups g item s.group within apart)
                      ∙ seating.sits other s old
                ]
            | inr last ↦
                let only = get_only seat s last.0 last.2 in
                let other_is : other ≡ item = (let e = last.1 in let k = only.0 in omega arith) in
                ap (λ (t : Seat). slice_get (group_at (put groups g item) t.group) t.place) (sym only.1)
                ∙ ap (λ group. slice_get group (slice_index_or sizes g 0)) (put_same groups g item within)
                ∙ get_behind (group_at groups g) (item ∷ []) (slice_index_or sizes g 0) 0 (omega (arith, place_is))
                ∙ ap (λ n. Some n) (sym other_is)
          ]

      alone : (other : ℕ) (s : Seat) → slice_get (group_at (put groups g item) s.group) s.place ≡ Some other
          → slice_get (seats ++ seat ∷ []) other ≡ Some s
      alone other s at =
          elim (cases_eq s.group g) [
            | inl same ↦
                let here : slice_get (group_at groups g ++ item ∷ []) s.place ≡ Some other =
                ap (λ group. slice_get group s.place) (sym (put_same groups g item within))
                ∙ ap (λ n. slice_get (group_at (put groups g item) n) s.place) (sym same) ∙ at in
                elim (get_either (group_at groups g) (item ∷ []) s.place other here) [
                  | inl old ↦
                      get_in_prefix seats (seat ∷ []) other s
                      (seating.alone other s (ap (λ n. slice_get (group_at groups n) s.place) same ∙ old))
                  | inr last ↦
                      let only = get_only item other last.0 last.2 in
                      let place_same : s.place ≡ slice_index_or sizes g 0 =
                      (let e = last.1 in let k = only.0 in omega (arith, place_is)) in
                      let seat_same : seat ≡ s = (λ i. record { group = sym same i; place = sym place_same i }) in
                      get_behind seats (seat ∷ []) other 0 (let e = only.1 in omega arith) ∙ ap (λ t. Some t) seat_same
                ]
            | inr apart ↦
                get_in_prefix seats (seat ∷ []) other s
                (seating.alone other s (ap (λ group. slice_get group s.place)
                (sym (put_other groups g item s.group within apart)) ∙ at))
          ]
