-- The greatest number of each client so far.
use Rattle.std.specs.Prelude.{ℕ, ◌≤◌, List, ◌++◌, All, Option, Some, None, nat_eq, slice_index_or}
use Rattle.indexmap.specs.IndexMap.{get}
use Rattle.eve_grammar.specs.Trace.{RequestId}
use Rattle.eve_history.specs.Order.{IsRepeated}
use Rattle.eve_history.specs.declared.greatest.Greatest.{Greatest}

-- the greatest number of a client, where it came: the table has those of the first clients, the map the others'
abbrev pub greatest_of : Greatest → ℕ → Option ℕ
greatest_of g client = slice_index_or g.first.items client (get nat_eq g.others client)

-- a client's greatest number is there, and this one isn't above it
abbrev pub HasReached : Option ℕ → ℕ → Type 0
HasReached None number = ⊥
HasReached (Some greatest) number = number ≤ greatest

-- of each that was noted, the client has reached the number
abbrev pub AreReached : (ℕ → Option ℕ) → List RequestId → Type 0
AreReached greatest noted = All (λ t. HasReached (greatest t.0) t.1) noted

-- none of a batch's own was noted before, and this is then kept of all
pub record HaveRisen (noted own : List RequestId) (Kept : List RequestId → Type 0) : Type 0 where
  pub new : ¬ IsRepeated noted own
  pub kept : Kept (noted ++ own)
