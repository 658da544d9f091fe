-- Two permutations of the same indexes list the same things in another order.
use Rattle.std.proofs.Common.{◌≡◌, ℕ, suc, ◌<◌, Bool, true, false, cond, ◌==◌, nat_lt, List, [], ◌∷◌, ◌++◌}
use Rattle.std.proofs.Common.{map, refl, sym, subst, ap, ◌∙◌, inl, inr, arith}
use Rattle.std.proofs.lemmas.Bool.{cases_Bool, cases_lt, and_parts, eqb-true, eq-eqb}
use Rattle.std.proofs.lemmas.Bool.{cond-true, cond-false}
use Rattle.std.specs.List.{list_all}
use Rattle.eve_grammar.specs.Certificate.{occurrences, all_below, is_permutation}
use Rattle.eve_smallbank.specs.Conflict.{IsReordering}
use Rattle.eve_smallbank.proofs.Members.{reordering_map}
use Rattle.eve_grammar.proofs.Orders.{all_below_at, none_above}

-- ---- from counts

occurrences-middle : (i x : ℕ) (prefix back : List ℕ) → occurrences i (prefix ++ x ∷ back)
    ≡ cond (x == i) (suc (occurrences i (prefix ++ back))) (occurrences i (prefix ++ back))
occurrences-middle i x [] back = refl
occurrences-middle i x (y ∷ prefix) back = ap (λ n. cond (y == i) (suc n) n) (occurrences-middle i x prefix back)
    ∙ exchange (y == i) (x == i) (occurrences i (prefix ++ back))
  where
    exchange : (b c : Bool) (n : ℕ) → cond b (suc (cond c (suc n) n)) (cond c (suc n) n)
        ≡ cond c (suc (cond b (suc n) n)) (cond b (suc n) n)
    exchange true true n = refl
    exchange true false n = refl
    exchange false true n = refl
    exchange false false n = refl

-- a number that occurs stands somewhere
pub found : (x : ℕ) (ys : List ℕ) → 0 < occurrences x ys → (prefix : List ℕ) × (back : List ℕ)
    × (ys ≡ prefix ++ x ∷ back)
found x [] h = absurd (omega arith)
found x (y ∷ ys) h =
    elim (cases_Bool (y == x)) [
      | inl e ↦ ([], ys, ap (λ z. z ∷ ys) (eqb-true y x e))
      | inr e ↦
          let rest = found x ys (subst (λ n. 0 < n) (cond-false (y == x) (suc (occurrences x ys)) (occurrences x ys) e)
          h) in
          (y ∷ rest.0, rest.1, ap (λ (zs : List ℕ). y ∷ zs) rest.2)
    ]

none_left : (ys : List ℕ) → ((i : ℕ) → 0 ≡ occurrences i ys) → ys ≡ []
none_left [] h = refl
none_left (y ∷ ys) h =
    let e : 0 ≡ suc (occurrences y ys) = h y ∙ cond-true (y == y) (suc (occurrences y ys)) (occurrences y ys)
    (eq-eqb y y refl) in
    absurd (omega arith)

same_rest : (b : Bool) (m n : ℕ) → cond b (suc m) m ≡ cond b (suc n) n → m ≡ n
same_rest true m n e = omega arith
same_rest false m n e = e

reordering_from_counts : (xs ys : List ℕ) → ((i : ℕ) → occurrences i xs ≡ occurrences i ys) → IsReordering xs ys
reordering_from_counts [] ys h = none_left ys h
reordering_from_counts (x ∷ xs) ys h =
    let here : 0 < occurrences x ys =
    subst (λ n. 0 < n) (sym (cond-true (x == x) (suc (occurrences x xs)) (occurrences x xs) (eq-eqb x x refl))
    ∙ h x) (omega arith) in
    let at = found x ys here in (
      at.0,
      at.1,
      at.2,
      reordering_from_counts xs (at.0 ++ at.1)
          (λ i. same_rest (x == i) (occurrences i xs) (occurrences i (at.0 ++ at.1))
          (h i ∙ ap (occurrences i) at.2 ∙ occurrences-middle i x at.0 at.1)),
    )

-- ---- the counts of a permutation

same_counts : (r : ℕ) (xs ys : List ℕ) → is_permutation r xs ≡ true → is_permutation r ys ≡ true → (i : ℕ)
    → occurrences i xs ≡ occurrences i ys
same_counts r xs ys h k i =
    let p = and_parts (list_all (λ j. nat_lt j r) xs) (all_below r (λ j. occurrences j xs == 1)) h in
    let q = and_parts (list_all (λ j. nat_lt j r) ys) (all_below r (λ j. occurrences j ys == 1)) k in
    elim (cases_lt i r) [
      | inl l ↦ eqb-true (occurrences i xs) 1 (all_below_at r (λ j. occurrences j xs == 1) i p.1 l)
          ∙ sym (eqb-true (occurrences i ys) 1 (all_below_at r (λ j. occurrences j ys == 1) i q.1 l))
      | inr l ↦ none_above r i xs p.0 l ∙ sym (none_above r i ys q.0 l)
    ]

-- ---- of what the indexes stand for

pub reordering_of_permutations : {A : Type 0} (f : ℕ → A) (r : ℕ) (xs ys : List ℕ) → is_permutation r xs ≡ true
    → is_permutation r ys ≡ true → IsReordering (map f xs) (map f ys)
reordering_of_permutations f r xs ys h k =
    reordering_map f xs ys (reordering_from_counts xs ys (same_counts r xs ys h k))
