use Rattle.std.proofs.Common.{◌≡◌, ◌≤◌, ◌++◌, map, drop, vec_len, vec_capacity}
use Rattle.eve_attempts.specs.Ledgers.{table_of_rows}
use Rattle.eve_attempts.specs.CommitsAndRollbacks.{restore_in}
use Rattle.eve_attempts.specs.inner.RestoredRows.{rising_from}
use Rattle.eve_attempts.proofs.restores.restore_all.Given as goal

abbrev pub invariant-loop-number : goal.invariant-loop-number
invariant-loop-number l = record {
  restores : l.restores.items ++ map (restore_in (table_of_rows l.rows.rows))
      (rising_from l.least (drop l.number-index l.numbers)) ≡ map (restore_in (table_of_rows l.rows.rows))
      (rising_from 0 l.numbers);
  len : vec_len l.restores ≤ l.number-index;
  room : vec_capacity l.restores ≡ vec_capacity l.initial.restores;
}
