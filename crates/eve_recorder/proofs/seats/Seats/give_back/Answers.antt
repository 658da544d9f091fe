use Rattle.std.proofs.Common.{◌≡◌, refl, ap, sym, ◌∙◌, subst, List, Option, Some, set, arith}
use Rattle.eve_recorder.specs.Noted.{AllOf}
use Rattle.eve_recorder.specs.RecorderViews.{RecorderId, recorder_id, Noter, Places, IsNoterOf, AreNotersSeated}
use Rattle.eve_recorder.specs.SeatTables.{seats_in_table}
use Rattle.eve_recorder.proofs.SeatTable.{seated_with}
use Rattle.eve_recorder.proofs.seats.Seats.give_back.Goals as goal

pub invariant_of-self : goal.invariant_of-self
invariant_of-self c = let i = c.self.invariant in let s = c.self.inside in let seat = c.args.seat in
    let here : RecorderId = recorder_id s.main.table_id s.workers in
    let own : seat.recorder ≡ here = c.requires ∙ sym (ap (λ (p : Places). p.recorder) c.self.view_is) in
    let is : c.seat.inside.worker ≡ seat.worker = ap (λ (x : Noter). x.worker) c.seat.view_is in
    let all = subst (λ (x : Noter). AllOf x.worker x.noted) c.seat.view_is c.seat.invariant.1.4 in
    let many = ap (λ (x : Noter). x.recorder.workers) c.seat.view_is ∙ ap (λ (r : RecorderId). r.workers) own in
    let lt = c.seat.invariant.1.1 in
    let table : set (seats_in_table s.table) seat.worker (Some seat) ≡ seats_in_table c.put.new.self =
    sym (c.put.ensures ∙ ap (λ k. set (seats_in_table s.table) k (Some seat)) is) in
    let seated =
    seated_with (IsNoterOf here) (seats_in_table s.table) seat.worker seat i.3 (own, refl, omega arith, all) in
    (i.0, i.1, i.2, subst (λ (l : List (Option Noter)). AreNotersSeated here l) table seated, i.4)
