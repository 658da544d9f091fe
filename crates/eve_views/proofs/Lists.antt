-- Public: other crates cite these lemmas. Lists at one of their places, and those of which each item stands in a
-- relation to the next.
use Rattle.std.proofs.Common.{◌≡◌, ℕ, zero, suc, ◌+◌, ◌-◌, ◌<◌, Bool, cond, List, ◌∷◌, ◌++◌, length, take, drop}
use Rattle.std.proofs.Common.{count_by, get_or, Some, sym, ap, subst, ◌∙◌, arith}
use Rattle.std.specs.Prelude.{slice_get}
use Rattle.std.proofs.Math.Seq.{drop-cons}
use Rattle.std.proofs.lemmas.List.{take-append-drop}
use Rattle.std.proofs.lemmas.List.Sums.{sum_by-cons}
use Rattle.std.proofs.lemmas.Option.{slice_get_within, get_or_from_slice_get}

-- a list at one of its places
pub cut_at : {A : Type 0} (xs : List A) (i : ℕ) (x : A) → slice_get xs i ≡ Some x
    → xs ≡ take i xs ++ x ∷ drop (suc i) xs
cut_at {A = A} xs i x e = sym (take-append-drop i xs)
    ∙ ap (λ (ys : List A). take i xs ++ ys) (drop-cons xs i x (slice_get_within xs i x e)
    ∙ ap (λ (y : A). y ∷ drop (suc i) xs) (get_or_from_slice_get xs i x x e))

-- how many items pass, one by one
pub count-cons : {A : Type 0} (p : A → Bool) (x : A) (xs : List A) → count_by p (x ∷ xs)
    ≡ cond (p x) 1 0 + count_by p xs
count-cons p x xs = sum_by-cons (λ y. cond (p y) 1 0) x xs

-- where the relation leads on from one to the next, each item stands in it to all after it
pub all_after : {A : Type 0} (R : A → A → Type 0) → ((a b c : A) → R a b → R b c → R a c) → (xs : List A)
    → ((k : ℕ) (d : A) → k + 1 < length xs → R (get_or xs k d) (get_or xs (k + 1) d)) → (i j : ℕ) (a b : A)
    → i < j → slice_get xs i ≡ Some a → slice_get xs j ≡ Some b → R a b
all_after {A} R leads xs next i j a b less e f = subst (λ (x : A). R a x) (get_or_from_slice_get xs j b a f)
    (subst (λ (x : A). R x (get_or xs j a)) (get_or_from_slice_get xs i a a e)
    (reach j less (slice_get_within xs j b f)))
  where
    far : (m : ℕ) → i + 1 + m < length xs → R (get_or xs i a) (get_or xs (i + 1 + m) a)
    far zero lt = (let same : i + 1 + 0 ≡ i + 1 = omega arith in
        subst (λ (n : ℕ). R (get_or xs i a) (get_or xs n a)) (sym same) (next i a (omega arith)))
    far (suc m) lt =
        let same : i + 1 + suc m ≡ i + 1 + m + 1 = omega arith in
        subst (λ (n : ℕ). R (get_or xs i a) (get_or xs n a)) (sym same)
        (leads (get_or xs i a) (get_or xs (i + 1 + m) a) (get_or xs (i + 1 + m + 1) a) (far m (omega arith))
        (next (i + 1 + m) a (omega arith)))

    reach : (n : ℕ) → i < n → n < length xs → R (get_or xs i a) (get_or xs n a)
    reach n lt there =
        let same : i + 1 + (n - (i + 1)) ≡ n = omega arith in
        subst (λ (m : ℕ). R (get_or xs i a) (get_or xs m a)) same (far (n - (i + 1)) (omega arith))
