-- Public: other crates cite these lemmas. Lists whose items are numbered, and what is made of the numbers.
use Rattle.std.proofs.Common.{◌≡◌, ℕ, zero, suc, ◌+◌, ◌<◌, List, [], ◌∷◌, ◌++◌, map, length, take, slice_get, Some}
use Rattle.std.proofs.Common.{refl, ap, ◌∙◌, arith}
use Rattle.std.specs.List.{enumerate_from}
use Rattle.std.proofs.lemmas.Option.{same_Some}

-- what stands at a place with its number stands there in the list
pub numbered_get : {A : Type 0} (n : ℕ) (xs : List A) (i : ℕ) (x : ℕ × A) → slice_get (enumerate_from n xs) i ≡ Some x
    → slice_get xs i ≡ Some x.1
numbered_get n [] i x e = absurd cc
numbered_get {A} n (y ∷ xs) zero x e = ap Some (ap (λ (u : ℕ × A). u.1) (same_Some (n, y) x e))
numbered_get n (y ∷ xs) (suc i) x e = numbered_get (n + 1) xs i x e

module _ {A B : Type 0} (f : ℕ → B) where
  made_at : (n : ℕ) (xs : List A) (i : ℕ) → i < length xs
      → slice_get (map (λ s. f s.0) (enumerate_from n xs)) i ≡ Some (f (n + i))
  made_at n [] i lt = absurd (omega (arith, lt))
  made_at n (x ∷ xs) zero lt = (let here : n ≡ n + 0 = omega arith in ap (λ (m : ℕ). Some (f m)) here)
  made_at n (x ∷ xs) (suc i) lt =
      let next : n + 1 + i ≡ n + suc i = omega arith in
      made_at (n + 1) xs i (omega (arith, lt)) ∙ ap (λ (m : ℕ). Some (f m)) next

  made_more : (n : ℕ) (xs : List A) (i : ℕ) → i < length xs
      → map (λ s. f s.0) (take (suc i) (enumerate_from n xs)) ≡ map (λ s. f s.0) (take i (enumerate_from n xs)) ++ f
      (n + i) ∷ []
  made_more n [] i lt = absurd (omega (arith, lt))
  made_more n (x ∷ xs) zero lt = (let here : n ≡ n + 0 = omega arith in ap (λ (m : ℕ). f m ∷ []) here)
  made_more n (x ∷ xs) (suc i) lt =
      let next : n + 1 + i ≡ n + suc i = omega arith in
      ap (λ (ys : List B). f n ∷ ys) (made_more (n + 1) xs i (omega (arith, lt))
      ∙ ap (λ (m : ℕ). map (λ s. f s.0) (take i (enumerate_from (n + 1) xs)) ++ f m ∷ []) next)

  made_all : (n : ℕ) (xs : List A) → map (λ s. f s.0) (take (length xs) (enumerate_from n xs))
      ≡ map (λ s. f s.0) (enumerate_from n xs)
  made_all n [] = refl
  made_all n (x ∷ xs) = ap (λ (ys : List B). f n ∷ ys) (made_all (n + 1) xs)

  -- what is made of the numbers from 0 on: at one place
  pub numbered_at : (xs : List A) (i : ℕ) → i < length xs
      → slice_get (map (λ s. f s.0) (enumerate_from 0 xs)) i ≡ Some (f i)
  numbered_at xs i lt =
      let same : 0 + i ≡ i = omega arith in
      made_at 0 xs i lt ∙ ap (λ (m : ℕ). Some (f m)) same

  -- of one item more
  pub numbered_more : (xs : List A) (i : ℕ) → i < length xs → map (λ s. f s.0) (take (i + 1) (enumerate_from 0 xs))
      ≡ map (λ s. f s.0) (take i (enumerate_from 0 xs)) ++ f i ∷ []
  numbered_more xs i lt =
      let next : i + 1 ≡ suc i = omega arith in
      let same : 0 + i ≡ i = omega arith in
      ap (λ (m : ℕ). map (λ s. f s.0) (take m (enumerate_from 0 xs))) next ∙ made_more 0 xs i lt
      ∙ ap (λ (m : ℕ). map (λ s. f s.0) (take i (enumerate_from 0 xs)) ++ f m ∷ []) same

  -- and of all
  pub numbered_all : (xs : List A) → map (λ s. f s.0) (take (length xs) (enumerate_from 0 xs))
      ≡ map (λ s. f s.0) (enumerate_from 0 xs)
  numbered_all xs = made_all 0 xs
