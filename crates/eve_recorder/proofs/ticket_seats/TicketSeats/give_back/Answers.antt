use Rattle.std.proofs.Common.{◌≡◌, ◌<◌, refl, ap, sym, ◌∙◌, subst, List, Option, Some, set, arith}
use Rattle.eve_recorder.specs.TicketViews.{TicketSource, Drawer, Drawers, IsDrawerOf, AreDrawersSeated, ticket_source}
use Rattle.eve_recorder.specs.SeatTables.{seats_in_table}
use Rattle.eve_recorder.proofs.SeatTable.{seated_with}
use Rattle.eve_recorder.proofs.ticket_seats.TicketSeats.give_back.Goals as goal

pub invariant_of-self : goal.invariant_of-self
invariant_of-self c = let i = c.self.invariant in let s = c.args.seat in
    let t : TicketSource = ticket_source c.self.inside.rest.table_id c.self.inside.seats c.self.inside.limit in
    let own : s.tickets ≡ t = c.requires ∙ sym (ap (λ (p : Drawers). p.tickets) c.self.view_is) in
    let is : c.seat.inside.number ≡ s.number = ap (λ (x : Drawer). x.number) c.seat.view_is in
    let seats : c.seat.inside.seats ≡ t.seats = ap (λ (x : Drawer). x.tickets.seats) c.seat.view_is
    ∙ ap (λ (u : TicketSource). u.seats) own in
    let lt : s.number < t.seats = omega (arith, c.seat.invariant.2) in
    let table : set (seats_in_table c.self.inside.table) s.number (Some s) ≡ seats_in_table c.put.new.self =
    sym (c.put.ensures ∙ ap (λ k. set (seats_in_table c.self.inside.table) k (Some s)) is) in
    let seated = seated_with (IsDrawerOf t) (seats_in_table c.self.inside.table) s.number s i.4 (own, refl, lt) in
    (i.0, i.1, i.2, i.3, subst (λ (l : List (Option Drawer)). AreDrawersSeated t l) table seated)
