-- Items that came one after another, and those that are still to come.
use Rattle.std.proofs.Common.{◌≡◌, ℕ, zero, suc, ◌+◌, List, [], ◌∷◌, ◌++◌, drop, Some}
use Rattle.std.proofs.Common.{ap, sym, ◌∙◌, append_assoc, add-one}
use Rattle.std.specs.Prelude.{slice_get}
use Rattle.std.specs.List.{enumerate_from, flat_map}

-- the item of a number stands in front of those behind it
pub at_number : {A : Type 0} (xs : List A) (i : ℕ) (x : A) → slice_get xs i ≡ Some x → drop i xs ≡ x ∷ drop (i + 1) xs
at_number {A = A} xs i x is = rw (add-one i) (by xs i is)
  where
    by : (xs : List A) (i : ℕ) → slice_get xs i ≡ Some x → drop i xs ≡ x ∷ drop (suc i) xs
    by [] i is = absurd cc
    by (y ∷ ys) zero is = let same : y ≡ x = cc in ap (λ (z : A). z ∷ ys) same
    by (y ∷ ys) (suc i) is = by ys i is

-- with one more that came
pub one_more : {A T : Type 0} (item : A → List T) (old new before all : List T) (xs : List A) (i : ℕ) (x : A)
    → slice_get xs i ≡ Some x → new ≡ old ++ item x → old ++ flat_map item (drop i xs) ≡ before ++ all
    → new ++ flat_map item (drop (i + 1) xs) ≡ before ++ all
one_more {A = A} item old new before all xs i x is came far =
    ap (λ t. t ++ flat_map item (drop (i + 1) xs)) came ∙ append_assoc old (item x) _
    ∙ ap (λ (ys : List A). old ++ flat_map item ys) (sym (at_number xs i x is)) ∙ far

-- with one more that came, of items with their numbers
pub one_numbered_more : {A T : Type 0} (item : ℕ × A → List T) (old new before all : List T) (xs : List A) (i : ℕ)
    (x : A) → slice_get xs i ≡ Some x → new ≡ old ++ item (i, x)
    → old ++ flat_map item (enumerate_from i (drop i xs)) ≡ before ++ all
    → new ++ flat_map item (enumerate_from (i + 1) (drop (i + 1) xs)) ≡ before ++ all
one_numbered_more {A = A} item old new before all xs i x is came far =
    ap (λ t. t ++ flat_map item (enumerate_from (i + 1) (drop (i + 1) xs))) came ∙ append_assoc old (item (i, x)) _
    ∙ ap (λ (ys : List A). old ++ flat_map item (enumerate_from i ys)) (sym (at_number xs i x is)) ∙ far
