-- Requests listed by index.
use Rattle.std.proofs.Common.{◌≡◌, ℕ, ◌+◌, ◌<◌, List, [], ◌∷◌, ◌++◌, map, take, length, sym, ap, ◌∙◌}
use Rattle.std.specs.Prelude.{slice_index_or}
use Rattle.std.proofs.lemmas.List.{map_push, map_more}
use Rattle.eve_grammar.specs.Trace.{Asked}
use Rattle.eve_write.specs.declared.request.RequestData.{RequestData}
use Rattle.eve_write.specs.Data.{asked}

-- one more copy of a request
pub listed_more : (copies : List RequestData) (copy : RequestData) (requests : List Asked) (order : List ℕ) (i : ℕ)
    (other : Asked) (copies' : List RequestData) → map asked copies ≡ map (λ j. slice_index_or requests j other)
    (take i order) → copies' ≡ copies ++ copy ∷ [] → asked copy
    ≡ slice_index_or requests (slice_index_or order i 0) other → i < length order → map asked copies'
    ≡ map (λ j. slice_index_or requests j other) (take (i + 1) order)
listed_more copies copy requests order i other copies' so_far pushed at there =
    ap (map asked) pushed ∙ map_push asked copies copy ∙ (λ k. so_far k ++ at k ∷ [])
    ∙ sym (map_more (λ j. slice_index_or requests j other) order i 0 there)
