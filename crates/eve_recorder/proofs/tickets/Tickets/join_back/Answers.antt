use Rattle.std.proofs.Common.{◌≡◌, ◌<◌, ap, sym, ◌∙◌, subst, Option, IfSome, arith}
use Rattle.eve_recorder.specs.TicketViews.{TicketSource, Drawer}
use Rattle.eve_recorder.proofs.CounterSteps.{joins}
use Rattle.eve_recorder.proofs.tickets.Tickets.join_back.Goals as goal

pub join_seat-requires : goal.join_seat-requires
join_seat-requires c =
    let own = subst (λ (s : Option Drawer). IfSome s (λ s. (s.tickets ≡ c.args.self.now)
    × (c.args.number < c.args.self.now.seats))) c.in-Some.is c.requires.own in
    let here = sym (ap (λ (t : TicketSource). t.table) c.self.view_is) in
    let table = ap (λ (s : Drawer). s.tickets.table) c.seat.view_is ∙ ap (λ (t : TicketSource). t.table) own.0 ∙ here in
    (c.requires.table ∙ here, table, c.seat.invariant.0, omega (arith, c.self.invariant.0), joins _ _ _ _)
