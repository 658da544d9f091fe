-- What rows have at first and after each state that was transferred, as the rows' walks look it up. docs/MODEL.md,
-- "What an entry must see".
use Rattle.std.specs.Prelude.{◌≡◌, ℕ, zero, suc, [], map, slice_index_or}
use Rattle.eve_smallbank.specs.Access.{balance_of_row}
use Rattle.eve_smallbank.specs.declared.versioned.Versioned.{Versioned}
use Rattle.eve_grammar.specs.Trace.{Trace}
use Rattle.eve_chains.specs.Visible.{transferred_table}
use Rattle.eve_chains.specs.Rows.{bases_of}
use Rattle.eve_chains.specs.declared.bases.Bases.{Bases}

-- what a row has after this many states: the opening balance after none, and else what the last of them has
abbrev pub base_at : Bases → ℕ → ℕ → Versioned
base_at b row zero = record { version = 0; value = balance_of_row b.opening.now row }
base_at b row (suc k) = transferred_table (slice_index_or (map (λ x. x.1.rows) b.history.now.transfers) k []) row

-- they are those of replica e
abbrev pub AreBasesOf : Trace → ℕ → Bases → Type 0
AreBasesOf t e b = (row : ℕ) → base_at b row ≡ bases_of t e row
