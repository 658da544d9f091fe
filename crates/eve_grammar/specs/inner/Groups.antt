-- The parallelBatches of indexes, as a table.
use Rattle.std.specs.Prelude.{◌≡◌, ℕ, List, slice_index}
use Rattle.std.specs.List.{AllByRecursion}
use Rattle.eve_grammar.specs.Certificate.{group_of}

-- the table has the parallelBatch of each index of the order
abbrev pub AreGroupNumbers : List ℕ → List ℕ → List ℕ → Type 0
AreGroupNumbers sizes order table = AllByRecursion (λ i. slice_index table i ≡ group_of sizes i) order
