use Rattle.std.proofs.Common.{◌≡◌, ◌≤◌, ◌+◌, drop, length}
use Rattle.eve_stamps.specs.HeldRows.{rows_changed}
use Rattle.eve_stamps.proofs.rows.changed_count.Given as goal

abbrev pub invariant-loop-place : goal.invariant-loop-place
invariant-loop-place l = record {
  few : l.count ≤ l.place;
  counted : l.count + length (rows_changed (drop l.place l.base) (drop l.place l.now))
      ≡ length (rows_changed l.base l.now);
}
