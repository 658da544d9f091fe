-- An order that has each index once, and never falls back to an earlier parallelBatch, keeps the groups.
use Rattle.std.proofs.Common.{◌≡◌, ℕ, zero, suc, ◌+◌, ◌<◌, ◌≤◌, Bool, true, false, cond, ◌==◌, nat_lt, nat_le, List, []}
use Rattle.std.proofs.Common.{◌∷◌, count_by, refl, sym, ◌∙◌, inl, inr, arith}
use Rattle.std.specs.List.{AllByRecursion, list_all}
use Rattle.std.proofs.lemmas.Bool.{cases_Bool, and_from, eq-eqb, lt-ltb, le-leb, cond-true, cond-false}
use Rattle.std.specs.Prelude.{IsTrue}
use Rattle.eve_grammar.specs.Certificate.{occurrences, all_below, is_permutation, group_of, is_grouped, keeps_groups}
use Rattle.eve_stamps_schedule.specs.ListOrder.{EachBefore}
use Rattle.eve_stamps_schedule.proofs.InsertedRecords.{count_cons}
use Rattle.eve_stamps_schedule.proofs.WorldInvariant.{flag}

counted : (i : ℕ) (xs : List ℕ) → occurrences i xs ≡ count_by (λ j. j == i) xs
counted i [] = refl
counted i (x ∷ xs) = by (x == i) (counted i xs) ∙ sym (count_cons i x xs)
  where
    by : (b : Bool) → occurrences i xs ≡ count_by (λ j. j == i) xs → cond b (suc (occurrences i xs)) (occurrences i xs)
        ≡ cond b 1 0 + count_by (λ j. j == i) xs
    by true e = omega arith
    by false e = omega arith

-- what is counted is below r
below_all : (r : ℕ) (xs : List ℕ) → ((i : ℕ) → count_by (λ j. j == i) xs ≤ flag (nat_lt i r))
    → list_all (λ i. nat_lt i r) xs ≡ true
below_all r [] few = refl
below_all r (x ∷ xs) few =
    and_from (nat_lt x r) (list_all (λ i. nat_lt i r) xs)
    (elim (cases_Bool (nat_lt x r)) [
      | inl t ↦ t
      | inr f ↦
          let none : flag (nat_lt x r) ≡ 0 = cond-false {A = ℕ} (nat_lt x r) 1 0 f in
          let one : cond (x == x) 1 0 ≡ 1 = cond-true {A = ℕ} (x == x) 1 0 (eq-eqb x x refl) in
          absurd (omega (arith, few x, none, one, count_cons x x xs))
    ])
    (below_all r xs (λ i. omega (arith, few i, count_cons i x xs)))

once_all : (n : ℕ) (xs : List ℕ) → ((i : ℕ) → i < n → occurrences i xs ≡ 1) → all_below n (λ i. occurrences i xs == 1)
    ≡ true
once_all zero xs once = refl
once_all (suc n) xs once =
    and_from (occurrences n xs == 1) (all_below n (λ i. occurrences i xs == 1))
    (eq-eqb (occurrences n xs) 1 (once n (omega arith)))
    (once_all n xs (λ i h. once i (omega arith)))

all_after : (sizes : List ℕ) (i : ℕ) (xs : List ℕ) → AllByRecursion (λ j. group_of sizes i ≤ group_of sizes j) xs
    → list_all (λ j. nat_le (group_of sizes i) (group_of sizes j)) xs ≡ true
all_after sizes i [] all = refl
all_after sizes i (x ∷ xs) all = and_from (nat_le (group_of sizes i) (group_of sizes x)) _
    (le-leb (group_of sizes i) (group_of sizes x) all.0) (all_after sizes i xs all.1)

grouped : (sizes xs : List ℕ) → EachBefore (λ i j. group_of sizes i ≤ group_of sizes j) xs → is_grouped sizes xs ≡ true
grouped sizes [] each = refl
grouped sizes (x ∷ xs) each = and_from (list_all (λ j. nat_le (group_of sizes x) (group_of sizes j)) xs)
    (is_grouped sizes xs) (all_after sizes x xs each.0) (grouped sizes xs each.1)

pub keeps : (sizes : List ℕ) (r : ℕ) (order : List ℕ) → ((i : ℕ) → count_by (λ j. j == i) order ≡ flag (nat_lt i r))
    → EachBefore (λ i j. group_of sizes i ≤ group_of sizes j) order
    → IsTrue (keeps_groups sizes r order)
keeps sizes r order once each =
    and_from (is_permutation r order) (is_grouped sizes order)
    (and_from (list_all (λ i. nat_lt i r) order) (all_below r (λ i. occurrences i order == 1))
    (below_all r order (λ i. let e = once i in omega (arith, e)))
    (once_all r order (λ i h. counted i order ∙ once i ∙ cond-true {A = ℕ} (nat_lt i r) 1 0 (lt-ltb i r h))))
    (grouped sizes order each)
