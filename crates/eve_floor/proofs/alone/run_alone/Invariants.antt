use Rattle.std.proofs.Common.{◌≡◌, ◌≤◌, length, take, vec_len, vec_capacity}
use Rattle.std.specs.List.{AllZip}
use Rattle.eve_floor.specs.Recording.{IsNotedFor}
use Rattle.eve_floor.proofs.alone.run_alone.Given as goal

abbrev pub invariant-loop-assignment : goal.invariant-loop-assignment
invariant-loop-assignment g l = record {
  workers : l.workers ≡ l.fn.workers;
  many : vec_len l.noted ≡ l.assignment-index;
  room : length l.assignments ≤ vec_capacity l.noted;
  noted : AllZip (IsNotedFor l.floor) (take l.assignment-index l.assignments) l.noted.items;
}
