use Rattle.std.proofs.Common.{◌≡◌, ◌<◌, IfSome, sym, subst, List, Option}
use Rattle.std.proofs.lemmas.Option.{IfSome_then}
use Rattle.eve_recorder.specs.TicketViews.{Drawer, Drawers, IsDrawerOf, AreDrawersSeated, ticket_source}
use Rattle.eve_recorder.specs.SeatTables.{seats_in_table}
use Rattle.eve_recorder.proofs.SeatTable.{own_of, seated_without}
use Rattle.eve_recorder.proofs.ticket_seats.TicketSeats.seat.Goals as goal

pub invariant_of-self : goal.invariant_of-self
invariant_of-self c = let i = c.self.invariant in let s = c.self.inside in let t =
    ticket_source s.rest.table_id s.seats s.limit in
    let seated = seated_without (IsDrawerOf t) (seats_in_table s.table) c.args.number i.4 in
    (i.0, i.1, i.2, i.3, subst (λ (l : List (Option Drawer)). AreDrawersSeated t l) (sym c.take.ensures.rest) seated)

own : (c : goal.After-take)
    → IfSome c.take.result (λ s. (s.tickets ≡ c.args.self.now.tickets) × (s.number ≡ c.args.number)
    × (c.args.number < c.args.self.now.tickets.seats))
own c = let s = c.self.inside in let t = ticket_source s.rest.table_id s.seats s.limit in
    subst (λ (p : Drawers). IfSome c.take.result (λ s. (s.tickets ≡ p.tickets) × (s.number ≡ c.args.number)
    × (c.args.number < p.tickets.seats))) c.self.view_is
    (own_of (IsDrawerOf t) (seats_in_table s.table) c.args.number c.take.result c.self.invariant.4 c.take.ensures.out)

pub returns-clause-tickets : goal.returns-clause-tickets
returns-clause-tickets c = IfSome_then c.take.result (own c) (λ s h. h.0)

pub returns-clause-number : goal.returns-clause-number
returns-clause-number c = IfSome_then c.take.result (own c) (λ s h. h.1)
