use Rattle.std.proofs.Common.{◌≡◌, length, ◌∙◌, arith}
use Rattle.eve_floor.proofs.Records.{place_more}
use Rattle.eve_floor.proofs.work.run_request.Goals as goal

pub returns-in-Ok-clause-own : goal.returns-in-Ok-clause-own
returns-in-Ok-clause-own g c =
    let task = c.task_of-task in
    place_more c.args.crew.now.floor.now c.args.shared.now c.args.own.now c.note.new.seat task.result
    c.in_ok-record.record c.requires.own c.in-Ok.ensures.ok task.ensures.batch
    (task.ensures.worker.0 ∙ c.worker.ensures)
    (omega (arith, task.ensures.worker.1, c.place.ensures)) c.in_ok-record.ensures.executes.1 c.requires.claimed

pub overflow_cast-place : goal.overflow_cast-place
overflow_cast-place g c =
    omega (arith, c.requires.claimed, c.requires.own.most, c.requires.shared.claims, c.place.ensures)
