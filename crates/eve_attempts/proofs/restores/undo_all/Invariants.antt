use Rattle.std.proofs.Common.{◌≡◌, ◌≤◌, length, drop}
use Rattle.eve_attempts.specs.Ledgers.{table_of_rows, values_before, writes_in}
use Rattle.eve_attempts.proofs.restores.undo_all.Given as goal

abbrev pub invariant-loop-end : goal.invariant-loop-end
invariant-loop-end l = record {
  within : l.end ≤ length l.opened;
  as_many : length l.rows.rows.balances ≡ length l.initial.rows.rows.balances;
  version : l.rows.version ≡ l.initial.rows.version;
  table : table_of_rows l.rows.rows
      ≡ values_before (table_of_rows l.initial.rows.rows) (writes_in (drop l.end l.opened));
}

abbrev pub decreases-loop-end : goal.decreases-loop-end
decreases-loop-end l = l.end
