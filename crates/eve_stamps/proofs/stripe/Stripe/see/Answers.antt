use Rattle.std.proofs.Common.{◌≡◌, cond, Some, None, subst}
use Rattle.eve_stamps.specs.Stripes.{Stripe, has_row, row_in, rows_now}
use Rattle.eve_stamps.proofs.StripeLaws.{seen_at}
use Rattle.eve_stamps.proofs.stripe.Stripe.see.Goals as goal

pub returns-in-Some : goal.returns-in-Some
returns-in-Some c =
    subst (λ (s : Stripe). Some c.index.result.now ≡ cond (has_row s c.args.row) (Some (row_in (rows_now s) c.args.row))
    None) c.self.view_is
    (seen_at c.self.inside.base.items c.self.inside.rows.items c.self.inside.journal.items c.self.inside.greatest
    c.args.row c.in-Some.place c.index.result.now c.self.invariant
    (rw c.deref.ensures.value at c.in-Some.ensures) c.index.ensures)
