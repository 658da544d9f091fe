use Rattle.std.proofs.Common.{◌≡◌, length, take, vec_len, vec_capacity}
use Rattle.eve_workload.specs.Batches.{asked_lists}
use Rattle.eve_workload.proofs.workload.copies_of.Given as goal

abbrev pub invariant-loop-batch : goal.invariant-loop-batch
invariant-loop-batch l = record {
  copies : asked_lists l.copies.items ≡ asked_lists (take l.batch-index l.batches);
  len : vec_len l.copies ≡ l.batch-index;
  room : vec_capacity l.copies ≡ length l.batches;
}
