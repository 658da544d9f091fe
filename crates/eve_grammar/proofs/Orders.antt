-- Public: other crates cite these lemmas. An order whose indexes are below their count and differ has each of them
-- once.
use Rattle.std.proofs.Common.{◌≡◌, ℕ, zero, suc, ◌+◌, ◌<◌, ◌≤◌, ◌==◌, Bool, true, false, cond, ltb, eqb, List, [], ◌∷◌}
use Rattle.std.proofs.Common.{◌++◌, length, get_or, set, replicate, take, drop, refl, sym, ap, subst, ◌∙◌, inl, inr}
use Rattle.std.proofs.Common.{zero-add, add-one, add-zero, arith}
use Rattle.std.proofs.lemmas.Bool.{cases_eq, cases_order, and_parts, and_from, and_left, and_right, eqb-true, eq-eqb}
use Rattle.std.proofs.lemmas.Bool.{ne_eqb, lt-ltb, ltb-true, le-ltb, cond-true, cond-false, false_from_ne_true}
use Rattle.std.proofs.lemmas.List.{take_more, take_all, drop_more, take-append-drop, length-set, length-replicate}
use Rattle.std.proofs.lemmas.List.{get_or-replicate, get_or-set_same, get_or-set_other}
use Rattle.std.proofs.lemmas.List.Recursion.{and_push, and_fails_at}
use Rattle.std.specs.List.{list_all}
use Rattle.eve_grammar.specs.Certificate.{occurrences, all_below, is_permutation}

-- ---- how often

pub occurrences-append : (i : ℕ) (xs ys : List ℕ) → occurrences i (xs ++ ys) ≡ occurrences i xs + occurrences i ys
occurrences-append i [] ys = sym (zero-add (occurrences i ys))
occurrences-append i (x ∷ xs) ys = by (x == i) (occurrences-append i xs ys)
  where
    by : (b : Bool) → occurrences i (xs ++ ys) ≡ occurrences i xs + occurrences i ys
        → cond b (suc (occurrences i (xs ++ ys))) (occurrences i (xs ++ ys))
        ≡ cond b (suc (occurrences i xs)) (occurrences i xs) + occurrences i ys
    by true e = omega arith
    by false e = e

-- where all are below r, no other number stands among them
pub none_above : (r i : ℕ) (xs : List ℕ) → list_all (λ j. ltb j r) xs ≡ true → r ≤ i → occurrences i xs ≡ 0
none_above r i [] all le = refl
none_above r i (x ∷ xs) all le =
    let parts = and_parts (ltb x r) (list_all (λ j. ltb j r) xs) all in
    let below : x < r = ltb-true x r parts.0 in
    cond-false (x == i) (suc (occurrences i xs)) (occurrences i xs) (ne_eqb x i (λ e. omega arith))
    ∙ none_above r i xs parts.1 le

-- a number that stands after one that is the same
pub twice : (i : ℕ) (xs : List ℕ) (k : ℕ) → k < length xs → get_or xs k 0 ≡ i → 0 < occurrences i (take k xs)
    → 1 < occurrences i xs
twice i xs k within here before =
    let split : occurrences i (take k xs ++ drop k xs) ≡ occurrences i (take k xs) + occurrences i (drop k xs) =
    occurrences-append i (take k xs) (drop k xs) in
    let whole : occurrences i (take k xs ++ drop k xs) ≡ occurrences i xs =
    ap (occurrences i) (take-append-drop k xs) in
    let rest : occurrences i (drop k xs) ≡ suc (occurrences i (drop (k + 1) xs)) =
    ap (occurrences i) (drop_more xs k 0 within)
    ∙ cond-true (eqb (get_or xs k 0) i) (suc (occurrences i (drop (k + 1) xs))) (occurrences i (drop (k + 1) xs))
    (eq-eqb (get_or xs k 0) i here) in
    omega arith

-- ---- the numbers below n, together

total : ℕ → List ℕ → ℕ
total zero xs = 0
total (suc n) xs = occurrences n xs + total n xs

total-nil : (n : ℕ) → total n [] ≡ 0
unfolding total
total-nil zero = refl
total-nil (suc n) = zero-add (total n []) ∙ total-nil n

occurrences-cons : (i x : ℕ) (xs : List ℕ) → occurrences i (x ∷ xs) ≡ occurrences i xs + cond (eqb x i) 1 0
occurrences-cons i x xs = by (eqb x i)
  where
    by : (b : Bool) → cond b (suc (occurrences i xs)) (occurrences i xs) ≡ occurrences i xs + cond b 1 0
    by true = omega arith
    by false = omega arith

-- below the next number: below this one, or the same
below_next : (x n : ℕ) → cond (ltb x (n + 1)) 1 0 ≡ cond (eqb x n) 1 0 + cond (ltb x n) 1 0
below_next x n =
    elim (cases_order x n) [
      | inl e ↦ rw (lt-ltb x (n + 1) (omega arith), eq-eqb x n e, le-ltb x n (omega arith)) refl
      | inr other ↦ elim other [
        | inl lt ↦ rw (lt-ltb x (n + 1) (omega arith), ne_eqb x n (λ e. omega arith), lt-ltb x n lt) refl
        | inr gt ↦ rw (le-ltb x (n + 1) (omega arith), ne_eqb x n (λ e. omega arith), le-ltb x n (omega arith)) refl
      ]
    ]

total-cons : (n x : ℕ) (xs : List ℕ) → total n (x ∷ xs) ≡ total n xs + cond (ltb x n) 1 0
unfolding total
total-cons zero x xs = let none : ltb x 0 ≡ false = le-ltb x 0 (omega arith) in rw none refl
total-cons (suc n) x xs =
    joined (occurrences n (x ∷ xs)) (total n (x ∷ xs)) (occurrences n xs) (total n xs) _ _ _ (occurrences-cons n x xs)
    (total-cons n x xs) (ap (λ (m : ℕ). cond (ltb x m) 1 0) (sym (add-one n)) ∙ below_next x n)
  where
    joined : (o' t' o t a b c : ℕ) → o' ≡ o + a → t' ≡ t + b → c ≡ a + b → o' + t' ≡ o + t + c
    joined o' t' o t a b c e f g = omega arith

total-length : (n : ℕ) (xs : List ℕ) → list_all (λ i. ltb i n) xs ≡ true → total n xs ≡ length xs
total-length n [] all = total-nil n
total-length n (x ∷ xs) all =
    let parts = and_parts (ltb x n) (list_all (λ i. ltb i n) xs) all in
    total-cons n x xs ∙ ap (λ (m : ℕ). total n xs + m) (cond-true (ltb x n) 1 0 parts.0) ∙ add-one (total n xs)
    ∙ ap suc (total-length n xs parts.1)

total-most : (n : ℕ) (xs : List ℕ) → ((i : ℕ) → i < n → occurrences i xs ≤ 1) → total n xs ≤ n
unfolding total
total-most zero xs once = omega arith
total-most (suc n) xs once = omega (arith, once n (omega arith), total-most n xs (λ i h. once i (omega arith)))

each_once : (n : ℕ) (xs : List ℕ) → ((i : ℕ) → i < n → occurrences i xs ≤ 1) → n ≤ total n xs
    → all_below n (λ i. occurrences i xs == 1) ≡ true
unfolding total
each_once zero xs once many = refl
each_once (suc n) xs once many =
    let few = total-most n xs (λ i h. once i (omega arith)) in
    let own : occurrences n xs ≤ 1 = once n (omega arith) in
    let is : occurrences n xs ≡ 1 = omega arith in
    and_from (eqb (occurrences n xs) 1) (all_below n (λ i. occurrences i xs == 1)) (eq-eqb (occurrences n xs) 1 is)
    (each_once n xs (λ i h. once i (omega arith)) (omega arith))

-- ---- permutations

pub all_below_at : (n : ℕ) (test : ℕ → Bool) (i : ℕ) → all_below n test ≡ true → i < n → test i ≡ true
all_below_at zero test i h k = absurd (omega arith)
all_below_at (suc n) test i h k =
    let parts = and_parts (test n) (all_below n test) h in
    elim (cases_eq i n) [
      | inl e ↦ ap test e ∙ parts.0
      | inr e ↦ all_below_at n test i parts.1 (omega arith)
    ]

pub permutes : (xs : List ℕ) → list_all (λ i. ltb i (length xs)) xs ≡ true
    → ((i : ℕ) → i < length xs → occurrences i xs ≤ 1) → is_permutation (length xs) xs ≡ true
permutes xs all once =
    let many : length xs ≤ total (length xs) xs = omega (arith, total-length (length xs) xs all) in
    and_from (list_all (λ i. ltb i (length xs)) xs) (all_below (length xs) (λ i. occurrences i xs == 1)) all
    (each_once (length xs) xs once many)

pub too_large : (r : ℕ) (xs : List ℕ) (k : ℕ) → k < length xs → r ≤ get_or xs k 0 → is_permutation r xs ≡ false
too_large r xs k within large =
    and_left (list_all (λ i. ltb i r) xs) (all_below r (λ i. occurrences i xs == 1))
    (and_fails_at (list_all (λ i. ltb i r)) (λ i. ltb i r) refl (λ _ _. refl) xs k 0 within
    (le-ltb (get_or xs k 0) r large))

pub repeated : (r : ℕ) (xs : List ℕ) (i : ℕ) → i < r → 1 < occurrences i xs → is_permutation r xs ≡ false
repeated r xs i below more =
    and_right (list_all (λ i. ltb i r) xs) (all_below r (λ i. occurrences i xs == 1))
    (false_from_ne_true (all_below r (λ i. occurrences i xs == 1))
    (λ h. let once = eqb-true (occurrences i xs) 1 (all_below_at r (λ i. occurrences i xs == 1) i h below) in
    omega arith))

-- ---- index by index

-- the indexes of the prefix are below r, and marked where they stand there
pub record Marked (r : ℕ) (prefix : List ℕ) (seen : List Bool) : Type 0 where
  pub long : length seen ≡ 256
  pub below : list_all (λ i. ltb i r) prefix ≡ true
  pub marks : (i : ℕ) → i < 256 → occurrences i prefix ≡ cond (get_or seen i false) 1 0

pub marked_start : (r : ℕ) → Marked r [] (replicate 256 false)
marked_start r = record {
  long = length-replicate 256 false;
  below = refl;
  marks = λ i lt. sym (cond-false (get_or (replicate 256 false) i false) 1 0 (get_or-replicate 256 i false false lt));
}

pub marked_more : (xs : List ℕ) (k : ℕ) (seen : List Bool) → Marked (length xs) (take k xs) seen → length xs ≤ 256
    → k < length xs → get_or xs k 0 < length xs → get_or seen (get_or xs k 0) false ≡ false
    → Marked (length xs) (take (k + 1) xs) (set seen (get_or xs k 0) true)
marked_more xs k seen marked few within below new = record {
  long = length-set seen (get_or xs k 0) true ∙ marked.long;
  below = ap (list_all (λ i. ltb i (length xs))) (take_more xs k 0 within)
      ∙ and_push (list_all (λ i. ltb i (length xs))) (λ i. ltb i (length xs)) refl (λ _ _. refl) (take k xs)
      (get_or xs k 0)
      ∙ and_from (list_all (λ i. ltb i (length xs)) (take k xs)) (ltb (get_or xs k 0) (length xs)) marked.below
      (lt-ltb (get_or xs k 0) (length xs) below);
  marks = λ i lt. ap (occurrences i) (take_more xs k 0 within) ∙ occurrences-append i (take k xs) (get_or xs k 0 ∷ [])
      ∙ mark i lt;
}
  where
    added : (a b c x y : ℕ) → a ≡ x → b ≡ y → c ≡ x + y → a + b ≡ c
    added a b c x y e f g = omega arith

    mark : (i : ℕ) → i < 256 → occurrences i (take k xs) + occurrences i (get_or xs k 0 ∷ [])
        ≡ cond (get_or (set seen (get_or xs k 0) true) i false) 1 0
    mark i lt = elim (cases_eq i (get_or xs k 0)) [
      | inl same ↦
          let long : length seen ≡ 256 = marked.long in
          let here : get_or (set seen (get_or xs k 0) true) i false ≡ true =
          ap (λ (j : ℕ). get_or (set seen (get_or xs k 0) true) j false) same
          ∙ get_or-set_same seen (get_or xs k 0) true false (omega arith) in
          let before : occurrences i (take k xs) ≡ 0 = marked.marks i lt
          ∙ cond-false (get_or seen i false) 1 0 (ap (λ (j : ℕ). get_or seen j false) same ∙ new) in
          let one : occurrences i (get_or xs k 0 ∷ []) ≡ 1 = cond-true (eqb (get_or xs k 0) i) 1 0
          (eq-eqb (get_or xs k 0) i (sym same)) in
          added _ _ _ 0 1 before one (cond-true _ 1 0 here)
      | inr other ↦
          let there : get_or (set seen (get_or xs k 0) true) i false ≡ get_or seen i false =
          get_or-set_other seen (get_or xs k 0) i true false other in
          let none : occurrences i (get_or xs k 0 ∷ []) ≡ 0 = cond-false (eqb (get_or xs k 0) i) 1 0
          (ne_eqb (get_or xs k 0) i (λ e. other (sym e))) in
          added _ _ _ (cond (get_or seen i false) 1 0) 0 (marked.marks i lt) none (ap (λ (b : Bool). cond b 1 0) there
          ∙ sym (add-zero (cond (get_or seen i false) 1 0)))
    ]

pub marked_twice : (xs : List ℕ) (k : ℕ) (seen : List Bool) → Marked (length xs) (take k xs) seen → length xs ≤ 256
    → k < length xs → get_or xs k 0 < length xs → get_or seen (get_or xs k 0) false ≡ true
    → is_permutation (length xs) xs ≡ false
marked_twice xs k seen marked few within below old =
    let before : occurrences (get_or xs k 0) (take k xs) ≡ 1 = marked.marks (get_or xs k 0) (omega arith)
    ∙ cond-true (get_or seen (get_or xs k 0) false) 1 0 old in
    repeated (length xs) xs (get_or xs k 0) below (twice (get_or xs k 0) xs k within refl (omega arith))

pub marked_all : (xs : List ℕ) (k : ℕ) (seen : List Bool) → Marked (length xs) (take k xs) seen → length xs ≤ 256
    → length xs ≤ k → is_permutation (length xs) xs ≡ true
marked_all xs k seen marked few all =
    let whole : take k xs ≡ xs = take_all k xs all in
    permutes xs (ap (list_all (λ i. ltb i (length xs))) (sym whole) ∙ marked.below)
    (λ i lt. subst (λ (ys : List ℕ). occurrences i ys ≤ 1) whole
    (most (get_or seen i false) (occurrences i (take k xs)) (marked.marks i (omega arith))))
  where
    most : (b : Bool) (n : ℕ) → n ≡ cond b 1 0 → n ≤ 1
    most true n e = omega arith
    most false n e = omega arith
