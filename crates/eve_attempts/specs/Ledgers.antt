-- A replica's own ledger of its rows, and of what is open on them. docs/MODEL.md, "Section state, fate".
use Rattle.std.specs.Prelude.{◌≡◌, ℕ, ℤ, ◌+◌, ◌^◌, ◌<◌, ◌≤◌, Bool, false, ◌&&◌, IsTrue, if◌then◌else◌, List, [], ◌∷◌}
use Rattle.std.specs.Prelude.{length, replicate, slice_index_or}
use Rattle.std.specs.List.{flat_map, list_all}
use Rattle.eve_smallbank.specs.declared.entry.Entry.{Entry}
use Rattle.eve_smallbank.specs.Access.{is_write, writes_row, balance_of_row}
use Rattle.eve_smallbank.specs.Chain.{Table, table_after}
use Rattle.eve_grammar.specs.Limits.{is_entry}

-- An open attempt: its view, its token, and what its records wrote, in its certificate's order.
pub record Opened : Type 0 where
  pub view : ℕ
  pub token : List ℕ
  pub written : List Entry

-- version and balance of each row, by number
pub record Rows : Type 0 where
  pub versions : List ℕ
  pub balances : List ℤ

-- The version of the trace, by which tokens are made. The rows as they are now; the open attempts, in order. The view,
-- the last committed number, and whether no attempt came since a rollback. How many workers there are, and how many
-- attempts may be open.
pub record Ledger : Type 0 where
  pub version : ℕ
  pub rows : Rows
  pub opened : List Opened
  pub view : ℕ
  pub committed : ℕ
  pub is_next_serial : Bool
  pub workers : ℕ
  pub window : ℕ

-- all rows at version 0
abbrev pub rows_at_first : List ℤ → Rows
rows_at_first balances = record { versions = replicate (length balances) 0; balances = balances }

-- and nothing open or committed
abbrev pub opening : ℕ → List ℤ → ℕ → ℕ → Ledger
opening version balances workers window = record {
  version = version;
  rows = rows_at_first balances;
  opened = [];
  view = 0;
  committed = 0;
  is_next_serial = false;
  workers = workers;
  window = window;
}

abbrev pub ledger_rows : Ledger → ℕ
ledger_rows s = length s.rows.balances

-- ---- rows

-- what each row has
abbrev pub table_of_rows : Rows → Table
table_of_rows rows row = record {
  version = slice_index_or rows.versions row 0;
  value = balance_of_row rows.balances row;
}

abbrev pub table_now : Ledger → Table
table_now s = table_of_rows s.rows

-- What each row had before these entries were written, the first of them first, where this is what it has after them:
-- what the first write of it saw.
abbrev pub values_before : Table → List Entry → Table
values_before table [] row = table row
values_before table (e ∷ es) row = if writes_row row e then record { version = e.version; value = e.seen }
    else values_before table es
    row

-- the writes of attempts, one attempt after another
abbrev pub writes_in : List Opened → List Entry
writes_in opened = flat_map (λ o. o.written) opened

-- the writes of all open attempts
abbrev pub open_writes : Ledger → List Entry
open_writes s = writes_in s.opened

-- what each row has as it is committed
abbrev pub rows_committed : Ledger → Table
rows_committed s = values_before (table_now s) (open_writes s)

-- ---- what holds of every ledger

-- a write of one of this many rows, within the limits of the format
abbrev pub is_write_in : ℕ → Entry → Bool
is_write_in rows e = is_write e.kind && is_entry rows e

-- each attempt's writes, undone after it, give the table that it found; the last leaves this one
abbrev pub AreLaid : Table → List Opened → Table → Type 0
AreLaid base [] now = base ≡ now
AreLaid base (o ∷ opened) now =
    (values_before (table_after base o.written) o.written ≡ base) × AreLaid (table_after base o.written) opened now

-- The numbers have four bytes, and no more attempts are open than may be. What they wrote lies within the limits of the
-- format, and was laid on the rows as they are committed, one attempt after another.
pub record IsLedger (s : Ledger) : Type 0 where
  pub counted : s.committed + length s.opened < 2 ^ 32
  pub room : length s.opened ≤ s.window
  pub written : IsTrue (list_all (is_write_in (ledger_rows s)) (open_writes s))
  pub laid : AreLaid (rows_committed s) s.opened (table_now s)
