-- Public: other crates cite these lemmas. Numbers that are each below another.
use Rattle.std.proofs.Common.{ℕ, suc, ◌<◌, ltb, IsTrue, List, [], ◌∷◌, get_or, refl}
use Rattle.std.specs.List.{list_all}
use Rattle.std.proofs.lemmas.Bool.{and_from, lt-ltb}

pub numbers_below : (n : ℕ) (xs : List ℕ) → ((i : ℕ) → get_or xs i 0 < n) → IsTrue (list_all (λ x. ltb x n) xs)
numbers_below n [] below = refl
numbers_below n (x ∷ xs) below =
    and_from (ltb x n) (list_all (λ x. ltb x n) xs) (lt-ltb x n (below 0)) (numbers_below n xs (λ i. below (suc i)))
