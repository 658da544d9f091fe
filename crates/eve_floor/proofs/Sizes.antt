-- The largest parallelBatch.
use Rattle.std.proofs.Common.{◌≡◌, ℕ, ◌+◌, ◌<◌, max, List, length, get_or, take, refl, ap, ◌∙◌}
use Rattle.std.proofs.lemmas.List.{take_more}
use Rattle.std.proofs.lemmas.List.Recursion.{max_push}
use Rattle.eve_floor.specs.Assignments.{largest}

pub largest_more : (sizes : List ℕ) (i : ℕ) → i < length sizes
    → largest (take (i + 1) sizes) ≡ max (largest (take i sizes)) (get_or sizes i 0)
largest_more sizes i there =
    ap largest (take_more sizes i 0 there)
    ∙ max_push largest (λ x. x) refl (λ x xs. refl) (take i sizes) (get_or sizes i 0)
