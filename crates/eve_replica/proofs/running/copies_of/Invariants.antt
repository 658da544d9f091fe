use Rattle.std.proofs.Common.{◌≡◌, ◌≤◌, All, vec_len, vec_capacity}
use Rattle.eve_replica.proofs.running.copies_of.Given as goal

abbrev pub invariant-loop-number : goal.invariant-loop-number
invariant-loop-number l = record {
  many : vec_len l.copies ≡ l.number;
  each : All (λ c. c.items ≡ l.votes) l.copies.items;
  room : l.count ≤ vec_capacity l.copies;
}
