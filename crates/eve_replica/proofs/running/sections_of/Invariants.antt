use Rattle.std.proofs.Common.{◌≡◌, ◌≤◌, ◌+◌, length, map, vec_len, vec_capacity}
use Rattle.eve_write.specs.Data.{section}
use Rattle.eve_replica.proofs.running.sections_of.Given as goal

abbrev pub invariant-loop-server : goal.invariant-loop-server
invariant-loop-server l = record {
  right : map section l.sections.items ≡ map (λ s. section s.steps) l.yielded;
  room : vec_len l.sections + length l.server-iterator.rest.items ≤ vec_capacity l.sections;
}
