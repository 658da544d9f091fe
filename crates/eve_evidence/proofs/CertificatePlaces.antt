-- A certificate, place after place.
use Rattle.std.proofs.Common.{◌≡◌, ℕ, zero, suc, ◌+◌, ◌-◌, ◌<◌, ◌≤◌, ◌==◌, nat_lt, nat_le, Bool, true, false, cond}
use Rattle.std.proofs.Common.{List, [], ◌∷◌, ◌++◌, length, take, drop, slice_get, Some, inl, inr, refl, sym, ap, subst}
use Rattle.std.proofs.Common.{◌∙◌, append_assoc, add-one, add-zero, arith}
use Rattle.std.specs.Prelude.{IsTrue, get_or}
use Rattle.std.specs.List.{list_all}
use Rattle.std.proofs.lemmas.Bool.{and_from, cases_lt, cases_eq, eq-eqb, ne_eqb, le-leb, lt-ltb, le-ltb, cond-true}
use Rattle.std.proofs.lemmas.Bool.{cond-false}
use Rattle.std.proofs.lemmas.List.{take_all, drop_all, length-take-le, length-append}
use Rattle.std.proofs.lemmas.Option.{same_Some, slice_get_within, slice_get-get_or}
use Rattle.eve_grammar.specs.Certificate.{occurrences, group_of, is_permutation, is_grouped, counts_from, keeps_groups}
use Rattle.eve_grammar.specs.Certificate.{is_certificate}
use Rattle.eve_grammar.proofs.Orders.{occurrences-append, permutes}
use Rattle.eve_grammar.proofs.Lists.{take_one_more, drop_here, slice_get-behind}
use Rattle.eve_history.proofs.Places.{weaker_place}
use Rattle.eve_evidence.specs.Certificate.{HasNot, IsFirstPlace, IsMissing, IsRightPlace, AreRightPlaces}
use Rattle.eve_evidence.proofs.Lists.{take-take, get-take, all-take, no_place_of_all}

-- ---- where a parallelBatch begins

-- this many parallelBatches have the indexes below the start, and the others lie in those behind them
pub record Walked (sizes : List ℕ) (group start : ℕ) : Type 0 where
  pub below : (m : ℕ) → m < start → group_of sizes m < group
  pub above : (m : ℕ) → start ≤ m → group_of sizes m ≡ group + group_of (drop group sizes) (m - start)

group_here : (size i : ℕ) (sizes : List ℕ) → i < size → group_of (size ∷ sizes) i ≡ 0
group_here size i sizes lt = cond-true (nat_lt i size) 0 (suc (group_of sizes (i - size))) (lt-ltb i size lt)

group_behind : (size i : ℕ) (sizes : List ℕ) → size ≤ i → group_of (size ∷ sizes) i ≡ suc (group_of sizes (i - size))
group_behind size i sizes le = cond-false (nat_lt i size) 0 (suc (group_of sizes (i - size))) (le-ltb i size le)

module _ (sizes : List ℕ) (group start size : ℕ) (walked : Walked sizes group start)
    (got : slice_get sizes group ≡ Some size) where
  -- those of this parallelBatch
  here : (m : ℕ) → start ≤ m → m - start < size → group_of sizes m ≡ group
  here m le lt =
      walked.above m le
      ∙ ap (λ (l : List ℕ). group + group_of l (m - start)) (drop_here sizes group size got)
      ∙ ap (λ (n : ℕ). group + n) (group_here size (m - start) (drop (group + 1) sizes) lt)
      ∙ add-zero group

  pub walked_more : Walked sizes (group + 1) (start + size)
  walked_more = record {
    below = λ m lt. elim (cases_lt m start) [
      | inl less ↦ let own = walked.below m less in omega arith
      | inr more ↦ let own = here m more (omega arith) in omega arith
    ];
    above = λ m le.
        let is : group_of sizes m ≡ group + group_of (size ∷ drop (group + 1) sizes) (m - start) =
        walked.above m (omega arith)
        ∙ ap (λ (l : List ℕ). group + group_of l (m - start)) (drop_here sizes group size got) in
        let behind = group_behind size (m - start) (drop (group + 1) sizes) (omega arith) in
        let same : m - start - size ≡ m - (start + size) = omega arith in
        let rest : group_of (drop (group + 1) sizes) (m - start - size)
        ≡ group_of (drop (group + 1) sizes) (m - (start + size)) =
        ap (group_of (drop (group + 1) sizes)) same in
        omega (arith, is, behind, rest);
  }

  module _ (index : ℕ) (from : start ≤ index) (to : index - start < size) where
    pub earlier_here : (m : ℕ) → m < start → group_of sizes m < group_of sizes index
    earlier_here m lt = let own = walked.below m lt in let is = here index from to in omega arith

    pub later_here : (m : ℕ) → start ≤ m → group_of sizes index ≤ group_of sizes m
    later_here m le = let own = walked.above m le in let is = here index from to in omega arith

-- no parallelBatch is left
module _ (sizes : List ℕ) (group start index : ℕ) (walked : Walked sizes group start) (all : length sizes ≤ group)
    (from : start ≤ index) where
  last : group_of sizes index ≡ group
  last = walked.above index from ∙ ap (λ (l : List ℕ). group + group_of l (index - start)) (drop_all group sizes all)
      ∙ add-zero group

  pub earlier_last : (m : ℕ) → m < start → group_of sizes m < group_of sizes index
  earlier_last m lt = let own = walked.below m lt in let is = last in omega arith

  pub later_last : (m : ℕ) → start ≤ m → group_of sizes index ≤ group_of sizes m
  later_last m le = let own = walked.above m le in let is = last in omega arith

-- ---- an index that is missing

pub stood : (order : List ℕ) (index first : ℕ) → IsFirstPlace order index first → HasNot order index → ⊥
stood order index first place none =
    no_place_of_all (λ j. j ≡ index) order none (weaker_place _ _ order (λ before j own. own.0) place)

-- none of those below is missing, nor is one more
pub none_more : (sizes before : List ℕ) (index m first : ℕ) → ((k : ℕ) → k < m → ¬ IsMissing sizes before index k)
    → IsFirstPlace before m first → (k : ℕ) → k < m + 1 → ¬ IsMissing sizes before index k
none_more sizes before index m first none place k lt missing = elim (cases_lt k m) [
  | inl less ↦ none k less missing
  | inr more ↦
      let same : k ≡ m = omega arith in
      stood before m first place (subst (HasNot before) same missing.absent)
]

-- none is missing where none is of an earlier parallelBatch
pub none_missing : (sizes before : List ℕ) (index start below : ℕ) → start ≤ below
    → ((k : ℕ) → k < below → ¬ IsMissing sizes before index k)
    → ((m : ℕ) → start ≤ m → group_of sizes index ≤ group_of sizes m) → (m : ℕ) → ¬ IsMissing sizes before index m
none_missing sizes before index start below all none later m missing = elim (cases_lt m below) [
  | inl less ↦ none m less missing
  | inr more ↦ let own = later m (omega arith) in let less = missing.earlier in absurd (omega arith)
]

-- ---- a place more

pub right_more : (sizes : List ℕ) (r : ℕ) (serial : Bool) (order : List ℕ) (place index : ℕ)
    → slice_get order place ≡ Some index → AreRightPlaces sizes r serial (take place order)
    → IsRightPlace sizes r serial (take place order) index → AreRightPlaces sizes r serial (take (place + 1) order)
right_more sizes r serial order place index got before own k i there = elim (cases_lt k place) [
  | inl lt ↦
      let here : slice_get order k ≡ Some i = sym (get-take order k (place + 1) (omega arith)) ∙ there in
      let prefix : take k (take place order) ≡ take k (take (place + 1) order) =
      take-take k place order (omega arith) ∙ sym (take-take k (place + 1) order (omega arith)) in
      subst (λ (xs : List ℕ). IsRightPlace sizes r serial xs i) prefix (before k i (get-take order k place lt ∙ here))
  | inr ge ↦
      let long = slice_get_within order place index got in
      let count : length (take (place + 1) order) ≡ place + 1 = length-take-le (place + 1) order (omega arith) in
      let within = slice_get_within (take (place + 1) order) k i there in
      let at : k ≡ place = omega arith in
      let same : index ≡ i =
      same_Some index i (sym (get-take order place (place + 1) (omega arith) ∙ got)
      ∙ ap (slice_get (take (place + 1) order)) (sym at) ∙ there) in
      let prefix : take place order ≡ take k (take (place + 1) order) =
      sym (take-take place (place + 1) order (omega arith))
      ∙ ap (λ (n : ℕ). take n (take (place + 1) order)) (sym at) in
      subst (λ (xs : List ℕ). IsRightPlace sizes r serial xs i) prefix
      (subst (IsRightPlace sizes r serial (take place order)) same own)
]

-- ---- all places

all_get : {A : Type 0} (p : A → Bool) (xs : List A) → ((k : ℕ) (x : A) → slice_get xs k ≡ Some x → p x ≡ true)
    → list_all p xs ≡ true
all_get p [] each = refl
all_get p (x ∷ xs) each = and_from (p x) (list_all p xs) (each 0 x refl) (all_get p xs (λ k y got. each (suc k) y got))

no_more : (i : ℕ) (xs : List ℕ) → HasNot xs i → occurrences i xs ≡ 0
no_more i [] none = refl
no_more i (x ∷ xs) none =
    cond-false (x == i) (suc (occurrences i xs)) (occurrences i xs) (ne_eqb x i none.0) ∙ no_more i xs none.1

module _ (sizes : List ℕ) (r : ℕ) (serial : Bool) (order : List ℕ) (right : AreRightPlaces sizes r serial order) where
  -- no index stands twice among the first places
  few : (i n : ℕ) → occurrences i (take n order) ≤ 1
  few i zero = omega arith
  few i (suc n) = elim (cases_lt n (length order)) [
    | inl lt ↦
        let x = get_or order n 0 in
        let got : slice_get order n ≡ Some x = slice_get-get_or order n 0 lt in
        let more : take (suc n) order ≡ take n order ++ x ∷ [] =
        ap (λ (k : ℕ). take k order) (sym (add-one n)) ∙ take_one_more order n x got in
        let count : occurrences i (take (suc n) order) ≡ occurrences i (take n order) + occurrences i (x ∷ []) =
        ap (occurrences i) more ∙ occurrences-append i (take n order) (x ∷ []) in
        elim (cases_eq x i) [
          | inl same ↦
              let none : occurrences i (take n order) ≡ 0 =
              no_more i (take n order) (subst (λ (j : ℕ). HasNot (take n order) j) same (right n x got).once) in
              let one : occurrences i (x ∷ []) ≡ 1 = cond-true (x == i) 1 0 (eq-eqb x i same) in
              omega (arith, count, none, one)
          | inr other ↦
              let none : occurrences i (x ∷ []) ≡ 0 = cond-false (x == i) 1 0 (ne_eqb x i other) in
              omega (arith, count, none, few i n)
        ]
    | inr ge ↦
        let whole : take (suc n) order ≡ order = take_all (suc n) order (omega arith) in
        let same : take n order ≡ order = take_all n order ge in
        subst (λ (xs : List ℕ). occurrences i xs ≤ 1) (same ∙ sym whole) (few i n)
  ]

  permuted : length order ≡ r → is_permutation r order ≡ true
  permuted count =
      subst (λ (n : ℕ). is_permutation n order ≡ true) count
      (permutes order
      (all_get (λ i. nat_lt i (length order)) order (λ k x got. let own = (right k x got).there in
      lt-ltb x (length order) (omega (arith, own, count))))
      (λ i lt. subst (λ (xs : List ℕ). occurrences i xs ≤ 1) (take_all (length order) order (omega arith))
      (few i (length order))))

  -- an index that stands later is of no earlier parallelBatch
  not_earlier : (p q i j : ℕ) → p < q → slice_get order p ≡ Some i → slice_get order q ≡ Some j
      → group_of sizes i ≤ group_of sizes j
  not_earlier p q i j lt got later = elim (cases_lt (group_of sizes j) (group_of sizes i)) [
    | inl less ↦ absurd ((right p i got).grouped j (record {
      earlier = less;
      absent = subst (λ (xs : List ℕ). HasNot xs j) (take-take p q order (omega arith))
          (all-take (λ (k : ℕ). k ≡ j → ⊥) p (take q order) (right q j later).once);
    }))
    | inr le ↦ le
  ]

  grouped_from : (prefix rest : List ℕ) → prefix ++ rest ≡ order → is_grouped sizes rest ≡ true
  grouped_from prefix [] whole = refl
  grouped_from prefix (i ∷ rest) whole =
      let got : slice_get order (length prefix + 0) ≡ Some i =
      ap (λ (xs : List ℕ). slice_get xs (length prefix + 0)) (sym whole) ∙ slice_get-behind prefix (i ∷ rest) 0 in
      and_from (list_all (λ j. nat_le (group_of sizes i) (group_of sizes j)) rest) (is_grouped sizes rest)
      (all_get (λ j. nat_le (group_of sizes i) (group_of sizes j)) rest (λ k j there.
      le-leb (group_of sizes i) (group_of sizes j) (not_earlier (length prefix + 0) (length prefix + suc k) i j
      (omega arith) got
      (ap (λ (xs : List ℕ). slice_get xs (length prefix + suc k)) (sym whole)
      ∙ slice_get-behind prefix (i ∷ rest) (suc k) ∙ there))))
      (grouped_from (prefix ++ i ∷ []) rest (append_assoc prefix (i ∷ []) rest ∙ whole))

  listed_from : IsTrue serial → (prefix rest : List ℕ) → prefix ++ rest ≡ order → counts_from (length prefix) rest
      ≡ true
  listed_from is prefix [] whole = refl
  listed_from is prefix (i ∷ rest) whole =
      let got : slice_get order (length prefix + 0) ≡ Some i =
      ap (λ (xs : List ℕ). slice_get xs (length prefix + 0)) (sym whole) ∙ slice_get-behind prefix (i ∷ rest) 0 in
      let within = slice_get_within order (length prefix + 0) i got in
      let place : length (take (length prefix + 0) order) ≡ length prefix + 0 =
      length-take-le (length prefix + 0) order (omega arith) in
      let own : i ≡ length prefix = omega (arith, (right (length prefix + 0) i got).listed is, place) in
      let longer : length (prefix ++ i ∷ []) ≡ suc (length prefix) =
      length-append prefix (i ∷ []) ∙ add-one (length prefix) in
      and_from (i == length prefix) (counts_from (suc (length prefix)) rest) (eq-eqb i (length prefix) own)
      (subst (λ (n : ℕ). counts_from n rest ≡ true) longer
      (listed_from is (prefix ++ i ∷ []) rest (append_assoc prefix (i ∷ []) rest ∙ whole)))

  pub all_right : length order ≡ r → is_certificate sizes r serial order ≡ true
  all_right count =
      and_from (keeps_groups sizes r order) (cond serial (counts_from 0 order) true)
      (and_from (is_permutation r order) (is_grouped sizes order) (permuted count) (grouped_from [] order refl))
      (by serial refl)
    where
      by : (b : Bool) → serial ≡ b → cond b (counts_from 0 order) true ≡ true
      by true is = listed_from is [] order refl
      by false is = refl
