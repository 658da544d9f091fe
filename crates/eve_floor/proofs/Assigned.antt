-- The assignments of shared batches.
use Rattle.std.proofs.Common.{◌≡◌, ℕ, ◌+◌, ◌<◌, List, [], ◌∷◌, ◌++◌, length, get_or, map, take, sym, ap, ◌∙◌}
use Rattle.std.proofs.lemmas.List.{map-append, take_more}
use Rattle.eve_floor.specs.declared.assignment.Assignment.{Assignment}
use Rattle.eve_floor.specs.declared.shared.SharedBatch.{SharedBatch}

-- one more batch, of the assignment after those that are shared
pub assignments_more : (batches : List SharedBatch) (shared : SharedBatch) (assignments : List Assignment)
    (assignment : Assignment) (i : ℕ) → i < length assignments
    → assignment ≡ get_or assignments i assignment → shared.assignment ≡ assignment → map
    (λ (b : SharedBatch). b.assignment) batches ≡ take i assignments
    → map (λ (b : SharedBatch). b.assignment) (batches ++ shared ∷ []) ≡ take (i + 1) assignments
assignments_more batches shared assignments assignment i there is own all =
    map-append (λ (b : SharedBatch). b.assignment) batches (shared ∷ [])
    ∙ ap (λ (ls : List Assignment). ls ++ shared.assignment ∷ []) all
    ∙ ap (λ (l : Assignment). take i assignments ++ l ∷ []) (own ∙ is)
    ∙ sym (take_more assignments i assignment there)
