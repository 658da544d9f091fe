use Rattle.std.proofs.Common.{◌≡◌, ◌++◌, ◌<◌, drop}
use Rattle.std.specs.List.{AllByRecursion}
use Rattle.eve_attempts.specs.Ledgers.{writes_in}
use Rattle.eve_attempts.specs.inner.RestoredRows.{entry_rows}
use Rattle.eve_attempts.proofs.restores.written_rows.Given as goal

abbrev pub invariant-loop-open : goal.invariant-loop-open
invariant-loop-open l = record {
  rows : l.rows.items ++ entry_rows (writes_in (drop l.open-index l.opened)) ≡ entry_rows (writes_in l.opened);
  small : AllByRecursion (λ row. row < 131072) l.rows.items;
}
