use Rattle.std.proofs.Common.{◌≡◌, vec_len}
use Rattle.std.specs.List.{AllWithin}
use Rattle.eve_floor.specs.SharedBatches.{AreSeatedAt, AreFreeOf, IsMemberOf}
use Rattle.eve_floor.proofs.seats.give_back_all.Given as goal

abbrev pub invariant-loop-number : goal.invariant-loop-number
invariant-loop-number g l = record {
  many : vec_len l.members ≡ vec_len l.fn.members;
  free : AreFreeOf l.crew l.free.items;
  ticks : AreSeatedAt l.crew.ticks.now l.members.items;
  members : AllWithin (IsMemberOf l.crew) l.members.items l.number (vec_len l.members);
}
