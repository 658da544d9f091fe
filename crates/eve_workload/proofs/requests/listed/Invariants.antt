use Rattle.std.proofs.Common.{◌≡◌, length, map, take, vec_len, vec_capacity}
use Rattle.eve_write.specs.Data.{asked}
use Rattle.eve_workload.specs.inner.Groups.{listed}
use Rattle.eve_workload.proofs.requests.listed.Given as goal

abbrev pub invariant-loop-index : goal.invariant-loop-index
invariant-loop-index l = record {
  copies : map asked l.copies.items ≡ listed (map asked l.requests) (take l.index-index l.order);
  len : vec_len l.copies ≡ l.index-index;
  room : vec_capacity l.copies ≡ length l.order;
}
