use Rattle.std.proofs.Common.{◌≡◌, ◌≤◌, ◌+◌, length, map, vec_len, vec_capacity}
use Rattle.eve_write.specs.Data.{batch}
use Rattle.eve_replica.proofs.running.plain_batches.Given as goal

abbrev pub invariant-loop-one : goal.invariant-loop-one
invariant-loop-one l = record {
  right : map batch l.batches.items ≡ map (λ m. batch m.batch) l.yielded;
  room : vec_len l.batches + length l.one-iterator.rest.items ≤ vec_capacity l.batches;
}
