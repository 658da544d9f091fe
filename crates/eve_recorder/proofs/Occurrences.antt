-- Numbers that stand as often in a list as in 0, 1, .., n-1 are these, in some order.
use Rattle.std.proofs.Common.{◌≡◌, ℕ, zero, suc, ◌<◌, ◌==◌, if◌then◌else◌, List, [], ◌∷◌, ◌++◌, length, get_or}
use Rattle.std.proofs.Common.{remove, IsPermutation, sym, refl, ap, ◌∙◌, subst, arith}
use Rattle.std.specs.List.{range_with_len}
use Rattle.std.proofs.lemmas.Bool.Decides.{nat_tests}
use mathlib.Core.Logic.{dite}
use native.Mathlib.Decide.{ℕ_discrete}
use Rattle.std.proofs.lemmas.List.Sums.{sum_by-cons}
use Rattle.std.proofs.lemmas.List.Sorted.{IsPermutation-refl, IsPermutation-trans, IsPermutation-cons}
use Rattle.std.proofs.lemmas.List.Sorted.{IsPermutation-append_comm, IsPermutation-remove, sum_by-IsPermutation}
use Rattle.eve_stamps.proofs.OpeningLaws.{range_more}
use Rattle.eve_recorder.specs.CounterRule.{times, once_below}

-- where a number stands in the list, it stands at some place
place_of : (x : ℕ) (xs : List ℕ) → 0 < times x xs → (i : ℕ) × (i < length xs) × (x ≡ get_or xs i x)
place_of x [] h = absurd (omega arith)
place_of x (y ∷ xs) h = dite (ℕ_discrete x y)
    (λ e. (0, omega arith, e))
    (λ n. let r = place_of x xs (let t = sum_by-cons (λ (z : ℕ). if z == x then 1 else 0) y xs in
    grind (arith, nat_tests)) in (suc r.0, omega (arith, r.1), r.2))

none_of : (xs : List ℕ) → ((x : ℕ) → times x xs ≡ 0) → xs ≡ []
none_of [] h = refl
none_of (y ∷ xs) h = absurd (let e = h y in let t = sum_by-cons (λ (z : ℕ). if z == y then 1 else 0) y xs in
    grind (arith, nat_tests))

pub permutation_of : (n : ℕ) (xs : List ℕ) → ((x : ℕ) → times x xs ≡ once_below x n)
    → IsPermutation xs (range_with_len 0 n)
permutation_of zero xs h = subst (IsPermutation xs) (none_of xs (λ x. h x ∙ grind (arith, nat_tests)))
    (IsPermutation-refl xs)
permutation_of (suc n) xs h =
    let there : 0 < times n xs = let e = h n in grind (arith, nat_tests) in
    let p : (i : ℕ) × (i < length xs) × (n ≡ get_or xs i n) = place_of n xs there in
    let out : IsPermutation xs (n ∷ remove xs p.0) = IsPermutation-remove xs p.0 n p.1 p.2 in
    let left : (x : ℕ) → times x (remove xs p.0) ≡ once_below x n = λ x.
    let e = h x in let t = sum_by-cons (λ (z : ℕ). if z == x then 1 else 0) n (remove xs p.0) in
    let s : times x (n ∷ remove xs p.0) ≡ times x xs = sum_by-IsPermutation (λ (y : ℕ). if y == x then 1 else 0) xs
    (n ∷ remove xs p.0) out in grind (arith, nat_tests) in
    let rest : IsPermutation (n ∷ remove xs p.0) (n ∷ range_with_len 0 n) = IsPermutation-cons n (remove xs p.0)
    (range_with_len 0 n) (permutation_of n (remove xs p.0) left) in
    let whole : IsPermutation xs (range_with_len 0 n ++ n ∷ []) =
    IsPermutation-trans _ _ _ out
    (IsPermutation-trans _ _ _ rest (IsPermutation-append_comm (n ∷ []) (range_with_len 0 n))) in
    subst (IsPermutation xs) (sym (range_more 0 n ∙ ap (λ k. range_with_len 0 n ++ k ∷ []) (omega arith))) whole
