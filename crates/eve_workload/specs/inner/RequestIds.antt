-- The ids of requests: what tells them apart.
use Rattle.std.specs.Prelude.{◌≡◌, ℕ, ◌%◌, ◌<◌, ◌≤◌, Bool, IsTrue, IsFalse, List, [], All, Option, Some, None, ⊤, Vec}
use Rattle.std.specs.Prelude.{map, slice_index_or}
use Rattle.std.specs.List.{list_any}
use Rattle.std.specs.declared.alloc.Global.{Global}
use Rattle.std.specs.Ordering.{nat_cmp, is_eq, ordering_then}
use Rattle.std.specs.BTreeSet.{BTreeSet}
use Rattle.eve_grammar.specs.Trace.{RequestId, request_id}
use Rattle.eve_write.specs.Data.{asked}
use Rattle.eve_write.specs.declared.request.RequestData.{RequestData}
use Rattle.eve_workload.specs.Batches.{asked_lists}
use Rattle.eve_workload.specs.Workload.{requests_of}
use Rattle.eve_workload.specs.declared.request_ids.RequestIds.{RequestIds}
use Rattle.eve_workload.specs.declared.request_ids.TheConstants.{PLACES}

-- whether two ids are the same
abbrev pub same_id : RequestId → RequestId → Bool
same_id p q = is_eq (ordering_then (nat_cmp p.0 q.0) (nat_cmp p.1 q.1))

-- whether an id is among keys
abbrev pub has_id : List RequestId → RequestId → Bool
has_id keys id = list_any (same_id id) keys

-- the ids of requests
abbrev pub ids_of : List RequestData → List RequestId
ids_of requests = map request_id (map asked requests)

-- those of batches
abbrev pub ids_in : List (Vec RequestData Global) → List RequestId
ids_in batches = map request_id (requests_of (asked_lists batches))

-- the table has these ids, and no other
abbrev pub Lists : BTreeSet RequestId → List RequestId → Type 0
Lists table seen = (id : RequestId) → has_id table.keys id ≡ list_any (same_id id) seen

-- the last number of a client's place
abbrev pub at_place : List (Option ℕ) → ℕ → Option ℕ
at_place last client = slice_index_or last (client % PLACES) None

-- the number is the first of a place, or above the last there
abbrev pub Follows : Option ℕ → ℕ → Type 0
Follows None number = ⊤
Follows (Some last) number = last < number

-- the last number of a place is not below this one
abbrev pub ReachesNumber : Option ℕ → ℕ → Type 0
ReachesNumber None number = ⊥
ReachesNumber (Some last) number = number ≤ last

-- the last number of the client's place is not below the id's
abbrev pub IsUpToLast : List (Option ℕ) → RequestId → Type 0
IsUpToLast last id = ReachesNumber (at_place last id.0) id.1

-- these are the ids that were met
pub record AreSeen (r : RequestIds) (seen : List RequestId) : Type 0 where
  pub reached : IsTrue r.rises → All (IsUpToLast r.last) seen
  pub unlisted : IsTrue r.rises → Lists r.table []
  pub listed : IsFalse r.rises → Lists r.table seen
