use Rattle.std.proofs.Common.{◌≡◌, vec_len}
use Rattle.std.specs.List.{AllWithin}
use Rattle.eve_floor.specs.SharedBatches.{AreSeatedAt, AreFreshOf, IsMemberOf}
use Rattle.eve_floor.proofs.seats.seat_all.Given as goal

abbrev pub invariant-loop-number : goal.invariant-loop-number
invariant-loop-number g l = record {
  many : vec_len l.members ≡ vec_len l.fn.members;
  free : AreFreshOf l.crew l.free.items;
  ticks : AreSeatedAt l.crew.ticks.now l.members.items;
  members : AllWithin (IsMemberOf l.crew) l.members.items 0 l.number;
}
