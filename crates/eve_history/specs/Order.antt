-- The faults of orders: where they stand, and what holds without one. docs/MODEL.md, "Faults".
use Rattle.std.specs.Prelude.{◌≡◌, ℕ, List, ◌++◌, map, Contains}
use Rattle.std.specs.List.{flat_map}
use Rattle.eve_grammar.specs.Trace.{Asked, Customer, RequestId, request_id, Batch, Trace}
use Rattle.eve_grammar.specs.Spelling.{customers_at, batches_at}
use Rattle.eve_frames.specs.Views.{batch_in}
use Rattle.eve_views.specs.declared.fault.Code.{Code}
use Rattle.eve_views.specs.declared.fault.Code.TheVariants as code
use Rattle.eve_views.specs.Form.{SomePlace}

abbrev pub name_in : ℕ × Customer → List ℕ
name_in c = c.1.name

-- the ids of a batch's requests
abbrev pub request_ids_at : ℕ × (ℕ × Batch) → List RequestId
request_ids_at b = map request_id b.1.1.requests

-- one of the batch's requests occurs earlier, in the batch or before it
-- It is F11 SameRequest.
abbrev pub IsAskedAgain : List (ℕ × (ℕ × Batch)) → ℕ × (ℕ × Batch) → Type 0
IsAskedAgain before b = SomePlace (request_ids_at b)
    (λ earlier own. Contains (flat_map request_ids_at before ++ earlier) own)

-- a fault of orders stands at this offset: F10 SameName, F11 SameRequest
abbrev pub StandsInOrders : Code → Trace → ℕ → Type 0
StandsInOrders code.SameName t at =
    SomePlace (customers_at t) (λ before c. (c.0 ≡ at) × Contains (map (λ d. d.1.name) before) c.1.name)
StandsInOrders code.SameRequest t at = SomePlace (batches_at t) (λ before b. (b.0 ≡ at) × IsAskedAgain before b)
StandsInOrders _ t at = ⊥

-- no customer has the name of an earlier one
abbrev pub HasDistinctNames : Trace → Type 0
HasDistinctNames t = (at : ℕ) → ¬ StandsInOrders code.SameName t at

-- no request has the client and the number of an earlier one
abbrev pub HasDistinctRequests : Trace → Type 0
HasDistinctRequests t = (at : ℕ) → ¬ StandsInOrders code.SameRequest t at

-- ---- one request after another

-- the requests that a batch's frame says
abbrev pub requests_decoded : List ℕ → List Asked
requests_decoded bytes = (batch_in bytes).1.requests

-- one of these occurs earlier, among them or among what was noted
abbrev pub IsRepeated : List RequestId → List RequestId → Type 0
IsRepeated noted own = SomePlace own (λ earlier t. Contains (noted ++ earlier) t)
