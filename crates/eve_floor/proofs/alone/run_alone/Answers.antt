use Rattle.std.proofs.Common.{take, ◌+◌, ◌∙◌, subst, sym, arith}
use Rattle.std.specs.List.{AllZip}
use Rattle.eve_floor.specs.Recording.{IsNotedFor}
use Rattle.eve_floor.proofs.Zipped.{zip_more}
use Rattle.eve_floor.proofs.alone.run_alone.Goals as goal

pub loop-assignment-preserved : goal.loop-assignment-preserved
loop-assignment-preserved g c =
    let was = c.loop-assignment.invariant in
    let all = c.args.assignments.now in
    record {
      workers = c.in_ok-records.ensures.workers ∙ was.workers;
      many = omega (arith, c.push_reserved.ensures.len, was.many);
      room = omega (arith, c.push_reserved.ensures.capacity, was.room);
      noted = subst (AllZip (IsNotedFor c.args.floor.now) (take (c.loop-assignment.assignment-index + 1) all))
          (sym c.push_reserved.ensures.items)
          (zip_more (IsNotedFor c.args.floor.now) all c.loop-assignment.noted.items c.loop-assignment.assignment-index
          c.assignment-item.result c.in_ok-records.records (omega arith) c.assignment-item.is was.noted
          c.in_ok-records.ensures.noted);
    }
