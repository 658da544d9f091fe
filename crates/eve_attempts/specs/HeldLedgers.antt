-- How a ledger is held.
use Rattle.eve_attempts.specs.declared.ledger.Ledger.TheInside.{Inside}
use Rattle.eve_attempts.specs.Ledgers.{Ledger}

abbrev pub ledger_of : Inside → Ledger
ledger_of s = record {
  version = s.rows.version;
  rows = s.rows.rows;
  opened = s.opened.items;
  view = s.view;
  committed = s.committed;
  is_next_serial = s.is_next_serial;
  workers = s.workers;
  window = s.window;
}
