use Rattle.std.proofs.Common.{rules, ◌≡◌, ap, sym, ◌∙◌, subst, arith}
use Rattle.crossbeam_queue.specs.Passes.{view}
use Rattle.crossbeam_queue.specs.Fifo.{Held}
use Rattle.eve_recorder.specs.QueueRule.{SeesSome}
use Rattle.eve_recorder.specs.RecorderViews.{RecorderId, recorder_id, Desk, Noter, WasFull}
use Rattle.eve_recorder.proofs.OneSeat.{note_due, seat_after, full_by, full_alone}
use Rattle.eve_recorder.proofs.recorder.Recorder.note.Goals as goal

pub push-requires-clause-queue : goal.push-requires-clause-queue
push-requires-clause-queue g c = (
  ap (λ (s : Noter). s.recorder.table) c.seat.view_is ∙ ap (λ (r : RecorderId). r.table) c.requires.own
      ∙ sym (ap (λ (d : Desk). d.recorder.table) c.self.view_is),
  c.seat.invariant.0,
)

pub push-requires-clause-stands : goal.push-requires-clause-stands
push-requires-clause-stands g c = let r = rw (← c.seat.view_is) at c.requires.next in
    (note_due _ _ _ c.args.made c.seat.invariant.1 r.0 r.1).0

pub push-requires-clause-next : goal.push-requires-clause-next
push-requires-clause-next g c = let r = rw (← c.seat.view_is) at c.requires.next in
    (note_due _ _ _ c.args.made c.seat.invariant.1 r.0 r.1).1

pub invariant_of-seat : goal.invariant_of-seat
invariant_of-seat g c = let i = c.seat.invariant.1 in let r = rw (← c.seat.view_is) at c.requires.next in
    (c.in-Ok.ensures.queue.2 ∙ c.seat.invariant.0, seat_after _ _ _ _ _ i r.0 c.in-Ok.ensures.rule)

pub returns-in-Err-clause-ok : goal.returns-in-Err-clause-ok
returns-in-Err-clause-ok g c = search rules

pub returns-in-Err-clause-full : goal.returns-in-Err-clause-full
returns-in-Err-clause-full g c =
    let pass = c.seat.inside.pass in let desk = c.args.self.now in
    let own : recorder_id pass.table_id (view pass).workers ≡ desk.recorder =
    ap (λ (s : Noter). s.recorder) c.seat.view_is ∙ c.requires.own in
    let held = subst (λ n. Held n (SeesSome (view pass))) (ap (λ (d : Desk). d.room) c.self.view_is)
    c.in-Err.ensures.rule.2 in
    subst (WasFull desk) c.seat.view_is
    (full_by desk pass.table_id c.seat.inside.worker c.seat.inside.place (view pass) c.seat.invariant.1 own held)

pub returns-in-Err-clause-alone : goal.returns-in-Err-clause-alone
returns-in-Err-clause-alone g c one =
    let is = ap (λ (s : Noter). s.worker) c.seat.view_is in
    let many = ap (λ (s : Noter). s.recorder.workers) c.seat.view_is
    ∙ ap (λ (r : RecorderId). r.workers) c.requires.own in
    let lt = c.seat.invariant.1.1 in
    full_alone c.args.self.now c.args.seat.now (returns-in-Err-clause-full g c) (omega arith) one
