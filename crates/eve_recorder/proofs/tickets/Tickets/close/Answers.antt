use Rattle.std.proofs.Common.{◌≡◌, ◌+◌, ◌-◌, ℕ, refl, ap, sym, ◌∙◌, min, arith}
use lib.ListN.{get_elem?}
use Rattle.eve_recorder.specs.declared.drawn.Drawn.{Drawn}
use Rattle.eve_recorder.specs.CounterRule.{all_parts, times}
use Rattle.eve_recorder.specs.TicketViews.{TicketSource, Drawers, all_drawn, drawn_on}
use Rattle.eve_recorder.specs.SeatTables.{seats_in_table}
use Rattle.eve_recorder.proofs.Occurrences.{permutation_of}
use Rattle.eve_recorder.proofs.CounterSteps.{closes}
use Rattle.eve_recorder.proofs.SeatTable.{all_gathered}
use Rattle.eve_recorder.proofs.SeatsOfTickets.{own_at}
use Rattle.eve_recorder.proofs.tickets.Tickets.close.Goals as goal

pub join_back-requires-clause-own : goal.join_back-requires-clause-own
join_back-requires-clause-own c = own_at _ _ (seats_in_table c.seats.inside.table) 0 c.seats.inside.table.s0
    (ap (λ (p : Drawers). p.tickets) c.seats.view_is ∙ c.requires.tickets) c.seats.invariant.4 refl

pub join_back-requires-2-clause-own : goal.join_back-requires-2-clause-own
join_back-requires-2-clause-own c = own_at _ _ (seats_in_table c.seats.inside.table) 1 c.seats.inside.table.s1
    (ap (λ (p : Drawers). p.tickets) c.seats.view_is ∙ c.requires.tickets) c.seats.invariant.4 refl

pub join_back-requires-3-clause-own : goal.join_back-requires-3-clause-own
join_back-requires-3-clause-own c = own_at _ _ (seats_in_table c.seats.inside.table) 2 c.seats.inside.table.s2
    (ap (λ (p : Drawers). p.tickets) c.seats.view_is ∙ c.requires.tickets) c.seats.invariant.4 refl

pub join_back-requires-4-clause-own : goal.join_back-requires-4-clause-own
join_back-requires-4-clause-own c = own_at _ _ (seats_in_table c.seats.inside.table) 3 c.seats.inside.table.s3
    (ap (λ (p : Drawers). p.tickets) c.seats.view_is ∙ c.requires.tickets) c.seats.invariant.4 refl

pub join_back-requires-5-clause-own : goal.join_back-requires-5-clause-own
join_back-requires-5-clause-own c = own_at _ _ (seats_in_table c.seats.inside.table) 4 c.seats.inside.table.s4
    (ap (λ (p : Drawers). p.tickets) c.seats.view_is ∙ c.requires.tickets) c.seats.invariant.4 refl

pub join_back-requires-6-clause-own : goal.join_back-requires-6-clause-own
join_back-requires-6-clause-own c = own_at _ _ (seats_in_table c.seats.inside.table) 5 c.seats.inside.table.s5
    (ap (λ (p : Drawers). p.tickets) c.seats.view_is ∙ c.requires.tickets) c.seats.invariant.4 refl

pub join_back-requires-7-clause-own : goal.join_back-requires-7-clause-own
join_back-requires-7-clause-own c = own_at _ _ (seats_in_table c.seats.inside.table) 6 c.seats.inside.table.s6
    (ap (λ (p : Drawers). p.tickets) c.seats.view_is ∙ c.requires.tickets) c.seats.invariant.4 refl

pub join_back-requires-8-clause-own : goal.join_back-requires-8-clause-own
join_back-requires-8-clause-own c = own_at _ _ (seats_in_table c.seats.inside.table) 7 c.seats.inside.table.s7
    (ap (λ (p : Drawers). p.tickets) c.seats.view_is ∙ c.requires.tickets) c.seats.invariant.4 refl

-- the part that stayed has a part more for each seat
all-joined : (p0 p1 p2 p3 p4 p5 p6 p7 p8 a0 a1 a2 a3 a4 a5 a6 a7 a8 : ℕ) → p1 + a0 ≡ p0 + a1 → p2 + a1 ≡ p1 + a2
    → p3 + a2 ≡ p2 + a3 → p4 + a3 ≡ p3 + a4
    → p5 + a4 ≡ p4 + a5 → p6 + a5 ≡ p5 + a6 → p7 + a6 ≡ p6 + a7 → p8 + a7 ≡ p7 + a8 → p8 + a0 ≡ p0 + a8
all-joined p0 p1 p2 p3 p4 p5 p6 p7 p8 a0 a1 a2 a3 a4 a5 a6 a7 a8 e0 e1 e2 e3 e4 e5 e6 e7 = omega arith

pub returns : goal.returns
returns c =
    let r = c.seats.inside.table in let n = c.args.self.seats in let m = min n in
    let numbers : all_drawn c.args.seats ≡ c.join_back-8.new.rest.me.0.numbers =
    ap (λ (p : Drawers). all_drawn p) (sym c.seats.view_is)
    ∙ all_gathered drawn_on _ _ _ _ _ _ _ _ _ r.s0 r.s1 r.s2 r.s3 r.s4 r.s5 r.s6 r.s7
    (ap (λ (v : Drawn). v.numbers) c.seats.invariant.1)
    c.join_back.ensures.numbers c.join_back-2.ensures.numbers c.join_back-3.ensures.numbers
    c.join_back-4.ensures.numbers c.join_back-5.ensures.numbers c.join_back-6.ensures.numbers
    c.join_back-7.ensures.numbers c.join_back-8.ensures.numbers in
    let same : c.seats.inside.seats ≡ n = ap (λ (p : Drawers). p.tickets.seats) c.seats.view_is
    ∙ ap (λ (t : TicketSource). t.seats) c.requires.tickets in
    let first : c.seats.inside.rest.me.0.parts ≡ all_parts - c.seats.inside.seats =
    ap (λ (v : Drawn). v.parts) c.seats.invariant.1 in
    let all = all-joined _ _ _ _ _ _ _ _ _ (m 0) (m 1) (m 2) (m 3) (m 4) (m 5) (m 6) (m 7) (m 8)
    c.join_back.ensures.parts c.join_back-2.ensures.parts c.join_back-3.ensures.parts c.join_back-4.ensures.parts
    c.join_back-5.ensures.parts c.join_back-6.ensures.parts c.join_back-7.ensures.parts c.join_back-8.ensures.parts
    in
    let parts : c.join_back-8.new.rest.me.0.parts ≡ all_parts = omega (arith, same, first, all, c.seats.invariant.2) in
    let f = c.close_with-closed.ensures.values in
    permutation_of _ _ (λ x. ap (times x) numbers
    ∙ closes f.2.0 _ _ _ f.2.1.0 f.2.1.1 parts (ap (λ l. get_elem? l 0) f.2.2 ∙ c.word-n.ensures) x)
