use Rattle.std.proofs.Common.{◌≡◌, List, [], map, ap, ap₂, ◌∙◌, sym, subst}
use Rattle.std.specs.Vec.{with_items}
use Rattle.std.proofs.lemmas.List.{with_items_is}
use Rattle.eve_smallbank.specs.declared.versioned.Versioned.{Versioned}
use Rattle.eve_stamps.specs.declared.journal.Journaled.{Journaled}
use Rattle.eve_stamps.specs.Stripes.{HeldRow, row_installed, installed}
use Rattle.eve_stamps.specs.HeldRows.{IsHeldStripe, stripe_held}
use Rattle.eve_stamps.proofs.StripeLaws.{held_installed}
use Rattle.eve_stamps.proofs.stripe.Stripe.install.Goals as goal

base_is : (c : goal.After-clear) → (with_items c.self.inside.base c.install_rows.new.rows).items
    ≡ map (row_installed c.args.transfer.now.rows.items) c.self.inside.base.items
base_is c =
    with_items_is c.self.inside.base c.install_rows.new.rows (c.install_rows.auto.rows ∙ c.deref_mut.ensures.len)
    ∙ c.install_rows.ensures
    ∙ ap₂ (λ (from : List Versioned) (base : List HeldRow). map (row_installed from) base) c.deref.ensures.value
    c.deref_mut.ensures.value

pub invariant_of-self : goal.invariant_of-self
invariant_of-self c =
    let s = c.self.inside in
    rw (c.copy_from_slice.ensures.items, c.deref-2.ensures.value, c.clear.ensures.items)
    (subst (λ (bs : List HeldRow). IsHeldStripe bs bs [] s.greatest) (sym (base_is c))
    (held_installed c.args.transfer.now.rows.items s.base.items s.rows.items s.journal.items s.greatest
    c.requires.versions c.self.invariant))

pub returns : goal.returns
returns c =
    ap₂ (λ (bs : List HeldRow) (js : List Journaled). stripe_held bs js c.self.inside.greatest) (base_is c)
    c.clear.ensures.items
    ∙ ap (installed c.args.transfer.now.rows.items) c.self.view_is
