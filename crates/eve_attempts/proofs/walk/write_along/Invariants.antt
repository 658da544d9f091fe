use Rattle.std.proofs.Common.{◌≡◌, IsTrue, ◌≤◌, ◌*◌, length, drop, vec_len, vec_capacity}
use Rattle.eve_attempts.specs.Ledgers.{table_of_rows, is_write_in}
use Rattle.std.specs.List.{list_all}
use Rattle.eve_attempts.specs.inner.RecordKeys.{records_in}
use Rattle.eve_attempts.proofs.RecordWalks.{Walking}
use Rattle.eve_attempts.proofs.walk.write_along.Given as goal

abbrev pub invariant-loop-key : goal.invariant-loop-key
invariant-loop-key l = record {
  walking : Walking (table_of_rows l.initial.rows.rows) (records_in l.records l.order) (table_of_rows l.rows.rows)
      (records_in l.records (drop l.key-index l.order)) l.written.items;
  as_many : length l.rows.rows.balances ≡ length l.initial.rows.rows.balances;
  versions : length l.rows.rows.versions ≡ length l.initial.rows.rows.versions;
  version : l.rows.version ≡ l.initial.rows.version;
  right : IsTrue (list_all (is_write_in (length l.initial.rows.rows.balances)) l.written.items);
  len : vec_len l.written ≤ 3 * l.key-index;
  room : vec_capacity l.written ≡ vec_capacity l.initial.written;
}
