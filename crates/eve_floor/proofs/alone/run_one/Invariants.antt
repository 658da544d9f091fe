use Rattle.std.proofs.Common.{◌≡◌, ◌≤◌, vec_len, vec_capacity}
use Rattle.eve_write.specs.Data.{batch as plain}
use Rattle.eve_floor.specs.Recording.{AreMadeBy}
use Rattle.eve_floor.proofs.alone.run_one.Given as goal

abbrev pub invariant-loop-index : goal.invariant-loop-index
invariant-loop-index g l = record {
  tick : l.tick.tickets ≡ l.fn.workers.ticks;
  many : vec_len l.records ≡ l.index;
  room : l.count ≤ vec_capacity l.records;
  made : AreMadeBy 0 l.floor (plain l.assignment.batch.now) 0 l.records.items;
}
