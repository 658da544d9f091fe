use Rattle.std.proofs.Common.{ap, sym, ◌∙◌, ℕ, arith}
use Rattle.atomic_table.specs.Table.{Me}
use Rattle.eve_recorder.specs.declared.drawn.Drawn.{Drawn}
use Rattle.eve_recorder.specs.TicketViews.{TicketSource}
use Rattle.eve_recorder.proofs.CounterSteps.{splits}
use Rattle.eve_recorder.proofs.tickets.Tickets.split_off.Goals as goal

pub split_seat-place-requires : goal.split_seat-place-requires
split_seat-place-requires c =
    let table = c.requires.table ∙ sym (ap (λ (t : TicketSource). t.table) c.self.view_is) in
    let parts = ap (λ (m : Me ℕ Drawn). m.0.parts) c.requires.rest in
    let none = ap (λ (m : Me ℕ Drawn). m.0.numbers) c.requires.rest in
    (table, omega (arith, c.self.invariant.0), splits _ _ (omega (arith, parts, c.requires.number)) none)
