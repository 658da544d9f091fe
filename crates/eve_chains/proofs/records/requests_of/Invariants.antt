use Rattle.std.proofs.Common.{◌≡◌, ◌+◌, ◌≤◌, ◌++◌, length, map, vec_len, vec_capacity}
use Rattle.eve_smallbank.specs.SmallBank.{plain}
use Rattle.eve_frames.specs.Views.{batch_in}
use Rattle.eve_chains.proofs.records.requests_of.Given as goal

abbrev pub invariant-loop-asked : goal.invariant-loop-asked
invariant-loop-asked l = record {
  read : map plain l.requests.items ++ map (λ a. a.request) l.asked-iterator
      ≡ map (λ a. a.request) (batch_in l.batch.bytes.now).1.requests;
  room : vec_len l.requests + length l.asked-iterator ≤ vec_capacity l.requests;
}
