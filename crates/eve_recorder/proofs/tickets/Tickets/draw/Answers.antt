use Rattle.std.proofs.Common.{ℕ, ◌<◌, ◌*◌, All, length, ap, sym, ◌∙◌, subst, arith}
use mathlib.Core.Option.{none}
use Rattle.atomic_table.specs.Table.{Me, step}
use Rattle.eve_recorder.specs.declared.drawn.Drawn.{Drawn}
use Rattle.eve_recorder.specs.declared.limits.TheConstants.{MOST_DRAWN}
use Rattle.eve_recorder.specs.TicketViews.{TicketSource, Drawer}
use Rattle.eve_recorder.proofs.CounterSteps.{draws, drawer_after}
use Rattle.eve_recorder.proofs.tickets.Tickets.draw.Goals as goal

pub fetch_add-number-requires : goal.fetch_add-number-requires
fetch_add-number-requires c =
    let i = c.seat.invariant in let p = c.seat.inside.place in
    let table = ap (λ (d : Drawer). d.tickets.table) c.seat.view_is ∙ ap (λ (t : TicketSource). t.table) c.requires
    ∙ sym (ap (λ (t : TicketSource). t.table) c.self.view_is) in
    let room : length p.me.0.numbers < p.me.0.parts * MOST_DRAWN = omega (arith, i.1, i.4, i.5, c.if-seat-eq0.false) in
    (table, omega (arith, c.self.invariant.0), draws (step 0 0 1 0 none) _ _ _ room)

pub returns-clause-drawn : goal.returns-clause-drawn
returns-clause-drawn c =
    let s = c.seat.inside in let e = c.fetch_add-number.ensures in
    drawer_after _ _ _ _ c.fetch_add-number.result s.number s.seats s.limit c.args.seat.now e.0
    (ap (λ (m : Me ℕ Drawn). m.0.numbers) e.2.0) c.seat.view_is

pub returns-clause-rising : goal.returns-clause-rising
returns-clause-rising c = subst (λ (d : Drawer). All (λ x. x < c.fetch_add-number.result) d.drawn) c.seat.view_is
    c.fetch_add-number.ensures.2.1
