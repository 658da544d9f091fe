-- What an entry must see: the chain of writes of its row. docs/MODEL.md, "Visible version, chained".
use Rattle.std.specs.Prelude.{◌≡◌, ℕ, ℤ, ◌+◌, if◌then◌else◌, List, [], ◌∷◌, ⊤, ◌≤◌, ◌==◌, filter, length, fold}
use Rattle.std.specs.List.{AllByRecursion, flat_map}
use Rattle.eve_smallbank.specs.declared.entry.Entry.{Entry}
use Rattle.eve_smallbank.specs.Access.{Executed, is_write, writes_row}
use Rattle.eve_smallbank.specs.declared.versioned.Versioned.{Versioned}

-- what each row has
abbrev pub Table : Type 0
Table = ℕ → Versioned

-- what a write leaves in its row
abbrev pub left_by : Entry → Versioned
left_by e = record { version = e.version + 1; value = e.after }

-- What the nearest earlier write of the row left, and where there is none what the row has at the base.
-- Of the entries before, the nearest stands first.
abbrev pub visible_at : Table → List Entry → Table
visible_at base [] row = base row
visible_at base (e ∷ before) row = if writes_row row e then left_by e else visible_at base before row

-- the entries before what comes after these
abbrev pub before_next : List Entry → List Entry → List Entry
before_next before [] = before
before_next before (e ∷ es) = before_next (e ∷ before) es

-- the entries before what comes after these requests
abbrev pub before_rest : List Entry → List Executed → List Entry
before_rest before [] = before
before_rest before (x ∷ xs) = before_rest (before_next before x.entries) xs

-- the entry saw the version and the value that its row has
pub record Sees (table : Table) (e : Entry) : Type 0 where
  pub version : e.version ≡ (table e.row).version
  pub value : e.seen ≡ (table e.row).value

-- Each entry sees what is visible at its place, after these entries before. A request's entries all
-- see what was there before the request.
abbrev pub IsChained : Table → List Entry → List Executed → Type 0
IsChained base before [] = ⊤
IsChained base before (x ∷ xs) =
    AllByRecursion (Sees (visible_at base before)) x.entries × IsChained base (before_next before x.entries) xs

-- the same of the entries of one row alone
abbrev pub IsRowChained : Table → ℕ → List Entry → List Executed → Type 0
IsRowChained base row before [] = ⊤
IsRowChained base row before (x ∷ xs) =
    AllByRecursion (λ e. e.row ≡ row → Sees (visible_at base before) e) x.entries
    × IsRowChained base row (before_next before x.entries) xs

-- ---- one row walked by itself

-- what the row has after one of its own entries
abbrev pub after_own : Versioned → Entry → Versioned
after_own v e = if is_write e.kind then left_by e else v

-- each of a row's own entries sees what those before it leave
abbrev pub IsWalk : Versioned → List Entry → Type 0
IsWalk v [] = ⊤
IsWalk v (e ∷ es) = (e.version ≡ v.version) × (e.seen ≡ v.value) × IsWalk (after_own v e) es

-- a request's entries of the row
abbrev pub own_entries : ℕ → Executed → List Entry
own_entries row x = filter (λ e. e.row == row) x.entries

-- the row's own entries, one request after another
abbrev pub row_entries : ℕ → List Executed → List Entry
row_entries row xs = flat_map (own_entries row) xs

-- each request has one entry of the row at most
abbrev pub HasOneEach : ℕ → List Executed → Type 0
HasOneEach row xs = AllByRecursion (λ x. length (own_entries row x) ≤ 1) xs

-- ---- tables of all rows

-- a table after the writes among these entries
abbrev pub table_after : Table → List Entry → Table
table_after table es = fold (λ now e row. if writes_row row e then left_by e else now row) table es

-- after those of executed requests, one after another
abbrev pub table_after_all : Table → List Executed → Table
table_after_all table xs = fold (λ now x. table_after now x.entries) table xs

-- the values alone
abbrev pub values_of : Table → ℕ → ℤ
values_of table row = (table row).value
