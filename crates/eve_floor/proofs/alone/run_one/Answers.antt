use Rattle.std.proofs.Common.{ℕ, List, length, ◌∙◌, subst, sym, arith}
use Rattle.eve_grammar.specs.Trace.{Batch}
use Rattle.eve_write.specs.Data.{batch as plain}
use Rattle.eve_floor.specs.Recording.{AreMadeBy}
use Rattle.eve_floor.proofs.Records.{made_push, noted_alone, record_of_task}
use Rattle.eve_floor.proofs.alone.run_one.Goals as goal

pub loop-index-preserved : goal.loop-index-preserved
loop-index-preserved g c =
    let names : List (List ℕ) = c.args.floor.now in
    let b : Batch = plain c.args.assignment.now.batch.now in
    let was = c.loop-index.invariant in
    let task = c.task_of-task in
    record {
      tick = c.in_ok-record.ensures.own ∙ was.tick;
      many = omega (arith, c.push_reserved.ensures.len, was.many);
      room = omega (arith, c.push_reserved.ensures.capacity, was.room);
      made = subst (AreMadeBy 0 names b 0) (sym c.push_reserved.ensures.items)
          (made_push 0 names b 0 c.loop-index.records.items c.in_ok-record.record task.result.index c.loop-index.index
          was.made (omega (arith, was.many))
          (record_of_task names c.args.assignment.now.batch.now task.result 0 c.loop-index.index c.in_ok-record.record
          task.ensures.batch task.ensures.worker.0 task.ensures.worker.1 c.in_ok-record.ensures.executes.1));
    }

pub returns-clause-noted : goal.returns-clause-noted
returns-clause-noted g c =
    noted_alone c.args.floor.now (plain c.args.assignment.now.batch.now) c.loop-index.records.items
    c.loop-index.invariant.made
