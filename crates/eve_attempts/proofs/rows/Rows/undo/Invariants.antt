use Rattle.std.proofs.Common.{◌≡◌, ◌≤◌, length, drop}
use Rattle.eve_attempts.specs.Ledgers.{table_of_rows, values_before}
use Rattle.eve_attempts.proofs.rows.Rows.undo.Given as goal

abbrev pub invariant-loop-end : goal.invariant-loop-end
invariant-loop-end l = record {
  within : l.end ≤ length l.written;
  as_many : length l.self.rows.balances ≡ length l.initial.self.rows.balances;
  versions : length l.self.rows.versions ≡ length l.initial.self.rows.versions;
  version : l.self.version ≡ l.initial.self.version;
  table : table_of_rows l.self.rows ≡ values_before (table_of_rows l.initial.self.rows) (drop l.end l.written);
}

abbrev pub decreases-loop-end : goal.decreases-loop-end
decreases-loop-end l = l.end
