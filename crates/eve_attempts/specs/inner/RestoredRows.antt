-- The rows that are restored. docs/DEPLOYMENT.md, "A replica's ledger".
use Rattle.std.specs.Prelude.{ℕ, ◌+◌, nat_le, if◌then◌else◌, List, [], ◌∷◌, map}
use Rattle.eve_smallbank.specs.declared.entry.Entry.{Entry}

-- the rows of entries
abbrev pub entry_rows : List Entry → List ℕ
entry_rows es = map (λ e. e.row) es

-- numbers without those that are below this one, or not above one before them
abbrev pub rising_from : ℕ → List ℕ → List ℕ
rising_from least [] = []
rising_from least (n ∷ ns) = if nat_le least n then n ∷ rising_from (n + 1) ns else rising_from least ns
