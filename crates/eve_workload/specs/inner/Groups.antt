-- Groups of indexes, held in two lists.
use Rattle.std.specs.Prelude.{◌≡◌, ℕ, negsuc, Bool, List, [], map, length, slice_index_or}
use Rattle.std.specs.List.{flat_map}
use Rattle.eve_smallbank.specs.declared.request.Abort.TheVariants.{NoSuchName}
use Rattle.eve_smallbank.specs.declared.rows.Touched.{Touched}
use Rattle.eve_smallbank.specs.declared.rows.Touched.TheVariants.{Refused}
use Rattle.eve_smallbank.specs.SmallBank.{DepositChecking}
use Rattle.eve_smallbank.specs.Access.{RowKinds}
use Rattle.eve_smallbank.specs.Touch.{rows_in}
use Rattle.eve_grammar.specs.Trace.{Asked}
use Rattle.eve_workload.specs.Mixers.{share}

-- the rows of the request with this index, none past the last
abbrev pub rows_at : List Touched → ℕ → RowKinds
rows_at touched i = rows_in (slice_index_or touched i (Refused NoSuchName))

-- requests that touch these rows are in conflict
abbrev pub share_at : (ℕ → RowKinds) → ℕ → ℕ → Bool
share_at rows i j = share (rows i) (rows j)

-- a request that is refused whatever names there are
abbrev pub refused_request : Asked
refused_request = record { client = 0; number = 0; request = DepositChecking [] (negsuc 0) }

-- the requests with these indexes
abbrev pub listed : List Asked → List ℕ → List Asked
listed requests order = map (λ i. slice_index_or requests i refused_request) order

-- the groups' sizes, and their items one group after another
pub record AreGroups {A : Type 0} (sizes : List ℕ) (order : List A) (groups : List (List A)) : Type 0 where
  pub sizes_are : sizes ≡ map length groups
  pub order_is : order ≡ flat_map (λ group. group) groups
