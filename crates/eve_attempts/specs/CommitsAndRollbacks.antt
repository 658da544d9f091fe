-- What commits and rollbacks make of a ledger. docs/DEPLOYMENT.md, "A replica's ledger".
use Rattle.std.specs.Prelude.{◌≡◌, ℕ, ◌+◌, ◌==◌, true, IsTrue, List, [], ◌∷◌}
use Rattle.std.specs.List.{AllByRecursion, list_any}
use Rattle.eve_smallbank.specs.Access.{writes_row}
use Rattle.eve_smallbank.specs.Chain.{Table, table_after}
use Rattle.eve_grammar.specs.Trace.{Commit, Rollback}
use Rattle.eve_grammar.specs.Limits.{is_rollback}
use Rattle.eve_grammar.specs.declared.restore.Restore.{Restore}
use Rattle.eve_attempts.specs.Ledgers.{Opened, Ledger, ledger_rows, table_now, open_writes, rows_committed}

-- the first open attempt is committed, and its writes with it
pub record Commits (old new : Ledger) (c : Commit) : Type 0 where
  pub first : Opened
  pub others : List Opened
  pub opened : old.opened ≡ first ∷ others
  pub commit : c ≡ record { seq = old.committed + 1; view = first.view; token = first.token }
  pub changed : new ≡ record old { opened = others; committed = old.committed + 1 }
  pub committed : rows_committed new ≡ table_after (rows_committed old) first.written

-- a row, as a table has it
abbrev pub restore_in : Table → ℕ → Restore
restore_in table row = record { row = row; version = (table row).version; value = (table row).value }

-- The rows that the open attempts wrote, rising, each as it is committed.
pub record AreRestores (s : Ledger) (restores : List Restore) : Type 0 where
  pub written : AllByRecursion (λ r. IsTrue (list_any (writes_row r.row) (open_writes s))) restores
  pub all : AllByRecursion (λ e. IsTrue (list_any (λ r. r.row == e.row) restores)) (open_writes s)
  pub committed : AllByRecursion (λ r. r ≡ restore_in (rows_committed s) r.row) restores

-- All open attempts are discarded, and the rows are again as they are committed. The rollback lies within the limits of
-- the format, so its rows rise.
pub record RollsBack (old new : Ledger) (r : Rollback) : Type 0 where
  pub to : r.to ≡ old.committed
  pub view : r.view ≡ old.view + 1
  pub restores : AreRestores old r.restores
  pub whole : IsTrue (is_rollback (ledger_rows old) r)
  pub changed : new ≡ record old { rows = new.rows; opened = []; view = old.view + 1; is_next_serial = true }
  pub as_many : ledger_rows new ≡ ledger_rows old
  pub rows : table_now new ≡ rows_committed old
