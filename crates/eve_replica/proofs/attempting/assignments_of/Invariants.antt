use Rattle.std.proofs.Common.{◌≡◌, ◌≤◌, All, length, map, take, vec_len, vec_capacity}
use Rattle.eve_write.specs.Data.{batch as plain}
use Rattle.eve_floor.specs.Assignments.{IsRightAssignment}
use Rattle.eve_replica.proofs.attempting.assignments_of.Given as goal

abbrev pub invariant-loop-mixed : goal.invariant-loop-mixed
invariant-loop-mixed l = record {
  right : All (IsRightAssignment l.floor l.workers) l.assignments.items;
  many : vec_len l.assignments ≡ l.mixed-index;
  room : length l.window ≤ vec_capacity l.assignments;
  batches : map (λ a. plain a.batch.now) l.assignments.items ≡ map (λ m. plain m.batch) (take l.mixed-index l.window);
}
