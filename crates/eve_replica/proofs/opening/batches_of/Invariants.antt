use Rattle.std.proofs.Common.{◌≡◌, ◌≤◌, ◌+◌, All, IsTrue, length, map, vec_len, vec_capacity}
use Rattle.std.specs.List.{list_all}
use Rattle.eve_write.specs.Data.{batch}
use Rattle.eve_workload.specs.Batches.{asked_lists}
use Rattle.eve_workload.specs.Mixers.{cut, batch_with}
use Rattle.eve_workload.specs.Workload.{is_listed}
use Rattle.eve_replica.specs.inner.RunInvariant.{IsRightMixed}
use Rattle.eve_replica.proofs.opening.batches_of.Given as goal

abbrev pub invariant-loop-requests : goal.invariant-loop-requests
invariant-loop-requests l = record {
  cut : map (λ m. batch m.batch) l.batches.items
      ≡ map (λ requests. batch_with (cut l.names.items l.mixer requests)) (asked_lists l.yielded);
  mixed : All (IsRightMixed l.names.items) l.batches.items;
  room : vec_len l.batches + length l.requests-iterator.rest.items ≤ vec_capacity l.batches;
  left : IsTrue (list_all is_listed (asked_lists l.requests-iterator.rest.items));
}
