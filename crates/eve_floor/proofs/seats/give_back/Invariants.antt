use Rattle.std.proofs.Common.{◌≡◌, drop}
use Rattle.std.specs.List.{AllZip}
use Rattle.eve_floor.specs.SharedBatches.{AreFreeOf, IsPartAt}
use Rattle.eve_floor.proofs.seats.give_back.Given as goal

abbrev pub invariant-loop-at : goal.invariant-loop-at
invariant-loop-at g l = record {
  tick : l.member.tick ≡ l.fn.member.tick;
  free : AreFreeOf l.crew l.free.items;
  parts : AllZip (IsPartAt l.crew.floor.now) (drop l.at l.crew.batches.now) l.member.parts.items;
}
