-- States that ledgers lend, and that are transferred to them. docs/DEPLOYMENT.md, "A replica's ledger".
use Rattle.std.specs.Prelude.{◌≡◌, ◌<◌, ◌≤◌, false, List, [], map, length}
use Rattle.eve_smallbank.specs.declared.versioned.Versioned.{Versioned}
use Rattle.eve_grammar.specs.Trace.{Transfer}
use Rattle.eve_attempts.specs.Ledgers.{Rows, Ledger, ledger_rows, table_of_rows, rows_committed}

-- rows as a state lists them, one after another
abbrev pub rows_of_state : List Versioned → Rows
rows_of_state state = record {
  versions = map (λ r. r.version) state;
  balances = map (λ r. r.value) state;
}

-- version and value of each row as it is committed
pub record IsStateOf (s : Ledger) (state : List Versioned) : Type 0 where
  pub many : length state ≡ ledger_rows s
  pub rows : table_of_rows (rows_of_state state) ≡ rows_committed s

-- The state is of a later batch and of no earlier view, and has as many rows. Rows, number and view are its, nothing is
-- open, and the next attempt is parallel.
pub record Transfers (x : Transfer) (old new : Ledger) : Type 0 where
  pub later : old.committed < x.seq
  pub view : old.view ≤ x.view
  pub many : length x.rows ≡ ledger_rows old
  pub changed : new ≡ record old {
    rows = rows_of_state x.rows;
    opened = [];
    view = x.view;
    committed = x.seq;
    is_next_serial = false;
  }
