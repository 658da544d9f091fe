use Rattle.std.proofs.Common.{◌≡◌, ◌≤◌, ◌+◌, ◌++◌, length, drop, min, vec_len, vec_capacity}
use Rattle.eve_smallbank.specs.Chain.{table_after}
use Rattle.eve_attempts.specs.Ledgers.{table_of_rows}
use Rattle.eve_attempts.proofs.TableLaws.{writes_among}
use Rattle.eve_attempts.proofs.walk.write_all.Given as goal

abbrev pub invariant-loop-place : goal.invariant-loop-place
invariant-loop-place l = record {
  as_many : length l.rows.rows.balances ≡ length l.initial.rows.rows.balances;
  versions : length l.rows.rows.versions ≡ length l.initial.rows.rows.versions;
  version : l.rows.version ≡ l.initial.rows.version;
  table : table_after (table_of_rows l.rows.rows) (drop l.place l.entries)
      ≡ table_after (table_of_rows l.initial.rows.rows) l.entries;
  written : l.written.items ++ writes_among (drop l.place l.entries)
      ≡ l.initial.written.items ++ writes_among l.entries;
  len : vec_len l.written ≤ vec_len l.initial.written + min l.place (length l.entries);
  capacity : vec_capacity l.written ≡ vec_capacity l.initial.written;
}
