use Rattle.std.proofs.Common.{◌≡◌, ◌-◌, ap, sym, ◌∙◌, subst, min, List, [], ◌∷◌, ℕ, Option, arith}
use Rattle.atomic_table.specs.Seated.{TableId}
use Rattle.atomic_table.specs.Table.{Me}
use Rattle.eve_recorder.specs.declared.drawn.Drawn.{Drawn}
use Rattle.eve_recorder.specs.CounterRule.{drawn, all_parts}
use Rattle.eve_recorder.specs.TicketViews.{TicketSource, Drawer, AreDrawersSeated, fresh_seats, ticket_source}
use Rattle.eve_recorder.proofs.SeatsOfTickets.{fresh_seated}
use Rattle.eve_recorder.proofs.tickets.Tickets.new.Goals as goal

pub invariant_of-all : goal.invariant_of-all
invariant_of-all c =
    let t : TicketSource = ticket_source c.in_ok-counter.counter.shared.table_id c.args.seats c.args.limit in
    let here : c.split_off-8.new.rest.table_id ≡ t.table = c.split_off-8.ensures.table ∙ c.split_off-7.ensures.table
    ∙ c.split_off-6.ensures.table ∙ c.split_off-5.ensures.table ∙ c.split_off-4.ensures.table
    ∙ c.split_off-3.ensures.table ∙ c.split_off-2.ensures.table ∙ c.split_off.ensures.table
    ∙ c.in_ok-counter.ensures.2 in
    let all : min c.args.seats 8 ≡ c.args.seats = omega (arith, c.requires.seats) in
    let is : (fresh_seats t).places ≡ c.split_off.result ∷ c.split_off-2.result ∷ c.split_off-3.result
    ∷ c.split_off-4.result ∷ c.split_off-5.result ∷ c.split_off-6.result ∷ c.split_off-7.result
    ∷ c.split_off-8.result ∷ [] = λ i. sym c.split_off.ensures.seat i ∷ sym c.split_off-2.ensures.seat i ∷ sym
    c.split_off-3.ensures.seat i ∷ sym c.split_off-4.ensures.seat i ∷ sym c.split_off-5.ensures.seat i ∷ sym
    c.split_off-6.ensures.seat i ∷ sym c.split_off-7.ensures.seat i ∷ sym c.split_off-8.ensures.seat i ∷ [] in (
      ap (λ (m : Me ℕ Drawn). m.1) c.split_off-8.ensures.rest,
      ap (λ (m : Me ℕ Drawn). m.0) c.split_off-8.ensures.rest ∙ ap (λ k. drawn (all_parts - k) []) all,
      c.requires.seats,
      c.requires.limit,
      subst (λ (y : TableId × List (Option Drawer)). AreDrawersSeated (ticket_source y.0 c.args.seats c.args.limit) y.1)
          (λ i. (sym here i, is i)) (fresh_seated t),
    )
