use Rattle.std.proofs.Common.{◌≡◌, ◌≤◌, length, take, vec_len, vec_capacity}
use Rattle.std.specs.List.{AllZip}
use Rattle.eve_floor.specs.SharedBatches.{AreFreshOf, IsPartAt}
use Rattle.eve_floor.proofs.seats.seat.Given as goal

abbrev pub invariant-loop-at : goal.invariant-loop-at
invariant-loop-at g l = record {
  tick : l.member.tick ≡ l.fn.member.tick;
  many : vec_len l.member.parts ≡ l.at;
  room : length l.crew.batches.now ≤ vec_capacity l.member.parts;
  free : AreFreshOf l.crew l.free.items;
  parts : AllZip (IsPartAt l.crew.floor.now) (take l.at l.crew.batches.now) l.member.parts.items;
}
