use Rattle.std.proofs.Common.{◌≡◌, ◌+◌, ◌≤◌, drop, map, take, vec_len, vec_capacity}
use Rattle.std.specs.List.{AllZip}
use Rattle.eve_floor.specs.Recording.{IsNotedFor}
use Rattle.eve_floor.specs.SharedBatches.{AreFreeAt}
use Rattle.eve_floor.proofs.gather.gather_all.Given as goal

abbrev pub invariant-loop-place : goal.invariant-loop-place
invariant-loop-place g l = record {
  many : vec_len l.noted ≡ l.place;
  left : vec_len l.batches + l.place ≡ vec_len l.fn.batches;
  capacity : vec_len l.fn.batches ≤ vec_capacity l.noted;
  batches : l.batches.items ≡ drop l.place l.fn.batches.items;
  free : AllZip (AreFreeAt l.floor) l.batches.items l.free.items;
  noted : AllZip (IsNotedFor l.floor) (take l.place (map (λ b. b.assignment) l.fn.batches.items)) l.noted.items;
}
