use Rattle.std.proofs.Common.{◌≡◌, ◌≤◌, ◌+◌, ◌++◌, drop, length}
use Rattle.std.specs.Prelude.{vec_len, vec_capacity}
use Rattle.eve_stamps.specs.HeldRows.{rows_changed}
use Rattle.eve_stamps.proofs.rows.append_changed.Given as goal

abbrev pub invariant-loop-place : goal.invariant-loop-place
invariant-loop-place l = record {
  items : l.restores.items ++ rows_changed (drop l.place l.base) (drop l.place l.now)
      ≡ l.initial.restores.items ++ rows_changed l.base l.now;
  room : vec_len l.restores + length (rows_changed (drop l.place l.base) (drop l.place l.now)) ≤ vec_capacity
      l.restores;
  capacity : vec_capacity l.restores ≡ vec_capacity l.initial.restores;
}
