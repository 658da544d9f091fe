use Rattle.std.proofs.Common.{◌≡◌, ◌++◌, List, length, ◌∙◌, ap, ap₂, refl, arith}
use Rattle.eve_stamps.specs.Stripes.{HeldRow, restores_of}
use Rattle.eve_stamps.specs.HeldRows.{rows_changed, stripe_held}
use Rattle.eve_stamps.proofs.Versions.{changed_is}
use Rattle.eve_stamps.proofs.stripe.Stripe.undo.Goals as goal

pub returns-then-capacity-len-clause-room : goal.returns-then-capacity-len-clause-room
returns-then-capacity-len-clause-room c =
    let told : rows_changed c.deref.result.now c.deref-2.result.now ≡ restores_of c.args.self.now =
    ap₂ rows_changed c.deref.ensures.value c.deref-2.ensures.value
    ∙ ap (rows_changed c.self.inside.base.items) c.self.invariant.as_now
    ∙ changed_is (stripe_held c.self.inside.base.items c.self.inside.journal.items c.self.inside.greatest)
    c.self.invariant.stands ∙ ap restores_of c.self.view_is in
    let many = ap (λ (rs : List HeldRow). length rs) told in
    (λ h. omega (arith, many), λ h. refl)

pub returns-clause-restores : goal.returns-clause-restores
returns-clause-restores c =
    let told : rows_changed c.deref-3.result.now c.deref-4.result.now ≡ restores_of c.args.self.now =
    ap₂ rows_changed c.deref-3.ensures.value c.deref-4.ensures.value
    ∙ ap (rows_changed c.self.inside.base.items) c.self.invariant.as_now
    ∙ changed_is (stripe_held c.self.inside.base.items c.self.inside.journal.items c.self.inside.greatest)
    c.self.invariant.stands ∙ ap restores_of c.self.view_is in
    c.append_changed.ensures.items ∙ ap (λ (rs : List HeldRow). c.args.restores.now.items ++ rs) told

pub returns-clause-room : goal.returns-clause-room
returns-clause-room c =
    let told : rows_changed c.deref.result.now c.deref-2.result.now ≡ restores_of c.args.self.now =
    ap₂ rows_changed c.deref.ensures.value c.deref-2.ensures.value
    ∙ ap (rows_changed c.self.inside.base.items) c.self.invariant.as_now
    ∙ changed_is (stripe_held c.self.inside.base.items c.self.inside.journal.items c.self.inside.greatest)
    c.self.invariant.stands ∙ ap restores_of c.self.view_is in
    let many = ap (λ (rs : List HeldRow). length rs) told in
    (λ h. cc, λ h. absurd (omega (arith, many)))
