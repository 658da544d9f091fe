use Rattle.std.proofs.Common.{◌≡◌, ◌++◌, length, map, drop, vec_len, vec_capacity}
use Rattle.eve_attempts.proofs.order.certificate_of.Given as goal

abbrev pub invariant-loop-key : goal.invariant-loop-key
invariant-loop-key l = record {
  indexes : l.indexes.items ++ map (λ k. k.1) (drop l.key-index l.order) ≡ map (λ k. k.1) l.order;
  len : vec_len l.indexes ≡ l.key-index;
  room : vec_capacity l.indexes ≡ length l.order;
}
