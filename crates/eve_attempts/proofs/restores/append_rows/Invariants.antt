use Rattle.std.proofs.Common.{◌≡◌, ◌++◌, ◌+◌, ◌<◌, drop, vec_len, vec_capacity}
use Rattle.std.specs.List.{AllByRecursion}
use Rattle.eve_attempts.specs.inner.RestoredRows.{entry_rows}
use Rattle.eve_attempts.proofs.restores.append_rows.Given as goal

abbrev pub invariant-loop-entry : goal.invariant-loop-entry
invariant-loop-entry l = record {
  rows : l.rows.items ++ entry_rows (drop l.entry-index l.written) ≡ l.initial.rows.items ++ entry_rows l.written;
  small : AllByRecursion (λ row. row < 131072) l.rows.items;
  len : vec_len l.rows ≡ vec_len l.initial.rows + l.entry-index;
  room : vec_capacity l.rows ≡ vec_capacity l.initial.rows;
}
