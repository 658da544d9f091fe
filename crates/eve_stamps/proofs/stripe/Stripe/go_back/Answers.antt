use Rattle.eve_stamps.proofs.StripeLaws.{held_undone}
use Rattle.eve_stamps.proofs.stripe.Stripe.go_back.Goals as goal

pub invariant_of-self : goal.invariant_of-self
invariant_of-self c =
    rw (c.copy_from_slice.ensures.items, c.deref.ensures.value, c.clear.ensures.items)
    (held_undone c.self.inside.base.items c.self.inside.rows.items c.self.inside.journal.items c.self.inside.greatest
    c.self.invariant)
