-- Reads of lists by index.
use Rattle.std.proofs.Common.{◌≡◌, ◌≢◌, ℕ, zero, suc, ◌+◌, List, [], ◌∷◌, ◌++◌, length, Some, ◌⊎◌, inl, inr, refl}
use Rattle.std.proofs.Common.{ap, arith}
use Rattle.std.specs.Prelude.{slice_get, slice_set}

module _ {A : Type 0} where
  pub get_behind : (xs ys : List A) (n k : ℕ) → n ≡ length xs + k → slice_get (xs ++ ys) n ≡ slice_get ys k
  get_behind [] ys n k is = let e : n ≡ k = omega arith in ap (slice_get ys) e
  get_behind (x ∷ xs) ys zero k is = absurd (omega arith)
  get_behind (x ∷ xs) ys (suc n) k is = get_behind xs ys n k (omega arith)

  -- an element stands in the prefix, or after it
  pub get_either : (xs ys : List A) (n : ℕ) (x : A) → slice_get (xs ++ ys) n ≡ Some x → (slice_get xs n ≡ Some x)
      ⊎ ((k : ℕ) × (n ≡ length xs + k) × (slice_get ys k ≡ Some x))
  get_either [] ys n x at = inr (n, omega arith, at)
  get_either (y ∷ xs) ys zero x at = inl at
  get_either (y ∷ xs) ys (suc n) x at =
      elim (get_either xs ys n x at) [
        | inl here ↦ inl here
        | inr behind ↦ inr (behind.0, (let e = behind.1 in omega arith), behind.2)
      ]

  -- the only element
  pub get_only : (x y : A) (k : ℕ) → slice_get (x ∷ []) k ≡ Some y → (k ≡ 0) × (x ≡ y)
  get_only x y zero at = (refl, cc)
  get_only x y (suc k) at = cc

  pub get_set_other : (xs : List A) (i j : ℕ) (y : A) → j ≢ i → slice_get (slice_set xs i y) j ≡ slice_get xs j
  get_set_other [] i j y apart = refl
  get_set_other (x ∷ xs) zero zero y apart = absurd (apart refl)
  get_set_other (x ∷ xs) zero (suc j) y apart = refl
  get_set_other (x ∷ xs) (suc i) zero y apart = refl
  get_set_other (x ∷ xs) (suc i) (suc j) y apart = get_set_other xs i j y (λ e. apart (ap suc e))

  -- lists that have the same elements are the same
  pub same_from_gets : (xs ys : List A) → ((k : ℕ) → slice_get xs k ≡ slice_get ys k) → xs ≡ ys
  same_from_gets [] [] same = refl
  same_from_gets [] (y ∷ ys) same = let first = same 0 in cc
  same_from_gets (x ∷ xs) [] same = let first = same 0 in cc
  same_from_gets (x ∷ xs) (y ∷ ys) same =
      let first : x ≡ y = (let e = same 0 in cc) in
      λ i. first i ∷ same_from_gets xs ys (λ k. same (suc k)) i
