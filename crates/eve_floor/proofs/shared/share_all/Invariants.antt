use Rattle.std.proofs.Common.{◌≡◌, ◌≤◌, All, length, map, take, vec_len, vec_capacity}
use Rattle.std.specs.List.{AllZip}
use Rattle.eve_floor.specs.SharedBatches.{IsRightlyShared, AreFreshAt}
use Rattle.eve_floor.proofs.shared.share_all.Given as goal

abbrev pub invariant-loop-assignment : goal.invariant-loop-assignment
invariant-loop-assignment l = record {
  many : vec_len l.batches ≡ l.assignment-index;
  all : vec_len l.free ≡ l.assignment-index;
  room : length l.assignments ≤ vec_capacity l.batches;
  seat_room : length l.assignments ≤ vec_capacity l.free;
  right : All (IsRightlyShared l.floor) l.batches.items;
  free : AllZip (AreFreshAt l.floor) l.batches.items l.free.items;
  assignments : map (λ b. b.assignment) l.batches.items ≡ take l.assignment-index l.assignments;
}
