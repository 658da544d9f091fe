use Rattle.std.proofs.Common.{◌≡◌, ◌++◌, length, drop, vec_len, vec_capacity}
use Rattle.eve_attempts.specs.inner.RecordKeys.{keys_from}
use Rattle.eve_attempts.proofs.order.keys_of.Given as goal

abbrev pub invariant-loop-place : goal.invariant-loop-place
invariant-loop-place l = record {
  keys : l.keys.items ++ keys_from l.place (drop l.place l.records) ≡ keys_from 0 l.records;
  len : vec_len l.keys ≡ l.place;
  room : vec_capacity l.keys ≡ length l.records;
}
