-- The requests of batches, a list each.
use Rattle.std.specs.Prelude.{List, [], ◌∷◌, ◌++◌, Vec, map}
use Rattle.std.specs.declared.alloc.Global.{Global}
use Rattle.eve_grammar.specs.Trace.{Asked}
use Rattle.eve_write.specs.Data.{asked}
use Rattle.eve_write.specs.declared.request.RequestData.{RequestData}

-- the requests of each batch
abbrev pub asked_lists : List (Vec RequestData Global) → List (List Asked)
asked_lists batches = map (λ b. map asked b.items) batches

-- lists, with one more item at the end of the last one
abbrev pub push_last : {A : Type 0} → List (List A) → A → List (List A)
push_last [] item = (item ∷ []) ∷ []
push_last (last ∷ []) item = (last ++ item ∷ []) ∷ []
push_last (first ∷ next ∷ lists) item = first ∷ push_last (next ∷ lists) item
