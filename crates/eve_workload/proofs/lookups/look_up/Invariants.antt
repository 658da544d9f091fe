use Rattle.std.proofs.Common.{◌≡◌, length, map, take, vec_len, vec_capacity}
use Rattle.eve_smallbank.specs.Touch.{touched_of}
use Rattle.eve_write.specs.Data.{asked}
use Rattle.eve_workload.proofs.lookups.look_up.Given as goal

abbrev pub invariant-loop-request : goal.invariant-loop-request
invariant-loop-request l = record {
  all : l.all.items ≡ map (λ a. touched_of l.names.items a.request) (map asked (take l.request-index l.requests));
  len : vec_len l.all ≡ l.request-index;
  room : vec_capacity l.all ≡ length l.requests;
}
