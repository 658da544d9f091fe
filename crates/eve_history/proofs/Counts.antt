-- How many of a list pass a test: where two do, they stand at two places.
use Rattle.std.proofs.Common.{◌≡◌, ℕ, zero, suc, ◌<◌, ◌≤◌, Bool, true, false, cond, List, [], ◌∷◌, Some, refl}
use Rattle.std.proofs.Common.{ap, ◌∙◌, arith}
use Rattle.std.specs.Prelude.{slice_get}
use Rattle.std.specs.List.{count_by}
use Rattle.eve_views.proofs.Lists.{count-cons}

-- one at this place passes
pub one_there : {A : Type 0} (p : A → Bool) (xs : List A) (i : ℕ) (x : A) → slice_get xs i ≡ Some x → p x ≡ true
    → 1 ≤ count_by p xs
one_there p [] i x e is = absurd cc
one_there p (y ∷ xs) zero x e is =
    let same : y ≡ x = cc in
    let head : ◌≡◌ {A = ℕ} (cond (p y) 1 0) 1 = ap {B = ℕ} (λ (t : Bool). cond t 1 0) (ap p same ∙ is) in
    omega (arith, count-cons p y xs, head)
one_there p (y ∷ xs) (suc i) x e is = omega (arith, count-cons p y xs, one_there p xs i x e is)

pub two_there : {A : Type 0} (p : A → Bool) (xs : List A) (i j : ℕ) (x y : A) → i < j → slice_get xs i ≡ Some x
    → slice_get xs j ≡ Some y → p x ≡ true → p y ≡ true → 2 ≤ count_by p xs
two_there p [] i j x y less e f is it = absurd cc
two_there p (z ∷ xs) i zero x y less e f is it = absurd (omega arith)
two_there p (z ∷ xs) zero (suc j) x y less e f is it =
    let same : z ≡ x = cc in
    let head : ◌≡◌ {A = ℕ} (cond (p z) 1 0) 1 = ap {B = ℕ} (λ (t : Bool). cond t 1 0) (ap p same ∙ is) in
    omega (arith, count-cons p z xs, head, one_there p xs j y f it)
two_there p (z ∷ xs) (suc i) (suc j) x y less e f is it =
    omega (arith, count-cons p z xs, two_there p xs i j x y (omega arith) e f is it)

-- a place at which one passes
pub record Passes {A : Type 0} (p : A → Bool) (xs : List A) : Type 0 where
  pub place : ℕ
  pub item : A
  pub there : slice_get xs place ≡ Some item
  pub passes : p item ≡ true

-- two places at which one passes
pub record PassTwice {A : Type 0} (p : A → Bool) (xs : List A) : Type 0 where
  pub first : ℕ
  pub second : ℕ
  pub former : A
  pub later : A
  pub apart : first < second
  pub former_there : slice_get xs first ≡ Some former
  pub later_there : slice_get xs second ≡ Some later
  pub former_passes : p former ≡ true
  pub later_passes : p later ≡ true

pub one_found : {A : Type 0} (p : A → Bool) (xs : List A) → 1 ≤ count_by p xs → Passes p xs
one_found p [] some = absurd (omega arith)
one_found {A = A} p (x ∷ xs) some = by (p x) refl (λ more. one_found p xs more)
  where
    by : (t : Bool) → p x ≡ t → (1 ≤ count_by p xs → Passes p xs) → Passes p (x ∷ xs)
    by true is rest = record { place = 0; item = x; there = refl; passes = is }
    by false is rest =
        let head : ◌≡◌ {A = ℕ} (cond (p x) 1 0) 0 = ap {B = ℕ} (λ (t : Bool). cond t 1 0) is in
        let found = rest (omega (arith, count-cons p x xs, head)) in
        record { place = suc found.place; item = found.item; there = found.there; passes = found.passes }

pub two_found : {A : Type 0} (p : A → Bool) (xs : List A) → 2 ≤ count_by p xs → PassTwice p xs
two_found p [] some = absurd (omega arith)
two_found {A = A} p (x ∷ xs) some = by (p x) refl (λ more. two_found p xs more)
  where
    by : (t : Bool) → p x ≡ t → (2 ≤ count_by p xs → PassTwice p xs) → PassTwice p (x ∷ xs)
    by true is rest =
        let head : ◌≡◌ {A = ℕ} (cond (p x) 1 0) 1 = ap {B = ℕ} (λ (t : Bool). cond t 1 0) is in
        let found = one_found p xs (omega (arith, count-cons p x xs, head)) in
        record {
          first = 0;
          second = suc found.place;
          former = x;
          later = found.item;
          apart = omega arith;
          former_there = refl;
          later_there = found.there;
          former_passes = is;
          later_passes = found.passes;
        }
    by false is rest =
        let head : ◌≡◌ {A = ℕ} (cond (p x) 1 0) 0 = ap {B = ℕ} (λ (t : Bool). cond t 1 0) is in
        let found = rest (omega (arith, count-cons p x xs, head)) in
        record {
          first = suc found.first;
          second = suc found.second;
          former = found.former;
          later = found.later;
          apart = omega (arith, found.apart);
          former_there = found.former_there;
          later_there = found.later_there;
          former_passes = found.former_passes;
          later_passes = found.later_passes;
        }
