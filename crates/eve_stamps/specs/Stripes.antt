-- Rows with a committed base and a journal of what was written since. docs/DEPLOYMENT.md, "Stripe".
use Rattle.std.specs.Prelude.{ℕ, pos, ◌<◌, ◌≤◌, nat_le, nat_lt, ◌==◌, Bool, true, false, IsTrue, if◌then◌else◌, ⊤, List}
use Rattle.std.specs.Prelude.{[], ◌∷◌, ◌++◌, map, filter, slice_get, Option, Some, None}
use Rattle.std.specs.List.{AllByRecursion, list_any}
use Rattle.eve_smallbank.specs.declared.entry.Entry.{Entry}
use Rattle.eve_smallbank.specs.Access.{writes_row}
use Rattle.eve_smallbank.specs.declared.versioned.Versioned.{Versioned}
use Rattle.eve_smallbank.specs.Chain.{Table, Sees, table_after}
use Rattle.eve_grammar.specs.declared.restore.Restore.{Restore}
use Rattle.eve_grammar.specs.declared.limits.TheConstants.{MOST_VERSIONS}
use Rattle.eve_stamps.specs.declared.journal.Journaled.{Journaled}

-- A row with its version and its value, in the form in which a rollback gives rows back.
abbrev pub HeldRow : Type 0
HeldRow = Restore

-- The committed base, row by row; what was read and written since, tick by tick; the greatest tick that it has had.
pub record Stripe : Type 0 where
  pub base : List HeldRow
  pub journal : List Journaled
  pub greatest : Option ℕ

-- ---- rows

-- whether one of these is the row
abbrev pub lies_in : List HeldRow → ℕ → Bool
lies_in rows row = list_any (λ r. r.row == row) rows

abbrev pub has_row : Stripe → ℕ → Bool
has_row s row = lies_in s.base row

-- what these rows have; a row that isn't among them is at version 0 with nothing in it
abbrev pub table_in : List HeldRow → Table
table_in [] row = record { version = 0; value = pos 0 }
table_in (r ∷ rows) row = if r.row == row then record { version = r.version; value = r.value } else table_in rows row

-- a row, as a table has it
abbrev pub row_in : Table → ℕ → HeldRow
row_in table row = record { row = row; version = (table row).version; value = (table row).value }

-- the same rows, as a table has them
abbrev pub rows_in_table : Table → List HeldRow → List HeldRow
rows_in_table table rows = map (λ r. row_in table r.row) rows

-- each row is below the rows after it
abbrev pub RowsRise : List HeldRow → Type 0
RowsRise [] = ⊤
RowsRise (r ∷ rows) = AllByRecursion (λ q. r.row < q.row) rows × RowsRise rows

-- no row's version is past the limit
abbrev pub AreWithinLimit : List HeldRow → Type 0
AreWithinLimit rows = AllByRecursion (λ r. r.version ≤ MOST_VERSIONS) rows

-- ---- the journal

-- a table with the journal's writes
abbrev pub table_after_journal : Table → List Journaled → Table
table_after_journal table [] = table
table_after_journal table (j ∷ journal) = table_after_journal (table_after table j.entries) journal

-- the committed base as a table
abbrev pub committed : Stripe → Table
committed s = table_in s.base

-- the base with the journal's writes
abbrev pub rows_now : Stripe → Table
rows_now s = table_after_journal (committed s) s.journal

-- each entry sees what the base and the entries before it leave
abbrev pub AreJournaled : Table → List Journaled → Type 0
AreJournaled table [] = ⊤
AreJournaled table (j ∷ journal) = AllByRecursion (Sees table) j.entries
    × AreJournaled (table_after table j.entries) journal

-- its ticks rise
abbrev pub JournalRises : List Journaled → Type 0
JournalRises [] = ⊤
JournalRises (j ∷ journal) = AllByRecursion (λ k. j.tick < k.tick) journal × JournalRises journal

-- an entry of one of these rows, that saw no version past the limit
pub record IsEntryIn (rows : List HeldRow) (e : Entry) : Type 0 where
  pub there : IsTrue (lies_in rows e.row)
  pub limit : e.version ≤ MOST_VERSIONS

-- it has entries of these rows alone
abbrev pub JournalLiesIn : List HeldRow → List Journaled → Type 0
JournalLiesIn rows journal = AllByRecursion (λ j. AllByRecursion (IsEntryIn rows) j.entries) journal

-- the greatest tick is no less
abbrev pub is_within : Option ℕ → ℕ → Bool
is_within None tick = false
is_within (Some greatest) tick = nat_le tick greatest

-- what holds of every stripe
pub record IsStripe (s : Stripe) : Type 0 where
  pub rows : RowsRise s.base
  pub own : JournalLiesIn s.base s.journal
  pub rising : JournalRises s.journal
  pub within : AllByRecursion (λ j. IsTrue (is_within s.greatest j.tick)) s.journal
  pub seen : AreJournaled (committed s) s.journal
  pub limit : AreWithinLimit (rows_in_table (rows_now s) s.base)

-- ---- what changes it

-- a tick above all that the stripe has had
abbrev pub is_above : ℕ → Option ℕ → Bool
is_above tick None = true
is_above tick (Some greatest) = nat_lt greatest tick

-- one more request
abbrev pub stripe_with : Stripe → ℕ → List Entry → Stripe
stripe_with s tick entries =
    record {
      base = s.base;
      journal = s.journal ++ record { tick = tick; entries = entries } ∷ [];
      greatest = Some tick;
    }

-- the journal up to the tick becomes part of the base
abbrev pub settled_to : ℕ → Stripe → Stripe
settled_to tick s = record {
  base = rows_in_table (table_after_journal (committed s) (filter (λ j. nat_le j.tick tick) s.journal)) s.base;
  journal = filter (λ j. nat_lt tick j.tick) s.journal;
  greatest = s.greatest;
}

-- the journal is gone
abbrev pub without_journal : Stripe → Stripe
without_journal s = record { base = s.base; journal = []; greatest = s.greatest }

-- no version of these is past the limit
abbrev pub HaveRightVersions : List Versioned → Type 0
HaveRightVersions rows = AllByRecursion (λ v. v.version ≤ MOST_VERSIONS) rows

-- the row with this version and value, if there are any
abbrev pub row_with : HeldRow → Option Versioned → HeldRow
row_with r (Some v) = record { row = r.row; version = v.version; value = v.value }
row_with r None = r

-- the row as it is among these rows, which are listed by number; as it was where it isn't among them
abbrev pub row_installed : List Versioned → HeldRow → HeldRow
row_installed rows r = row_with r (slice_get rows r.row)

-- the base has what these rows have, and the journal is gone
abbrev pub installed : List Versioned → Stripe → Stripe
installed rows s = record { base = map (row_installed rows) s.base; journal = []; greatest = s.greatest }

-- whether the journal wrote the row
abbrev pub was_written : List Journaled → ℕ → Bool
was_written journal row = list_any (λ j. list_any (writes_row row) j.entries) journal

-- the rows that the journal wrote, as the base has them
abbrev pub restores_of : Stripe → List Restore
restores_of s = filter (λ r. was_written s.journal r.row) s.base
