use Rattle.std.proofs.Common.{◌≡◌, ℕ, nat_le, subst, IsTrue, filter, [], Option}
use Rattle.std.proofs.lemmas.Bool.{leb-true}
use Rattle.std.specs.List.{AllByRecursion}
use Rattle.eve_stamps.specs.declared.journal.Journaled.{Journaled}
use Rattle.eve_stamps.specs.Stripes.{Stripe, is_within}
use Rattle.eve_stamps.proofs.JournalLaws.{up_to, behind}
use Rattle.eve_stamps.proofs.StripeLaws.{all_up_to}
use Rattle.eve_stamps.proofs.stripe.Stripe.is_all_up_to.Goals as goal

split : (c : goal.In-Some) → IsTrue (nat_le c.in-Some.greatest c.args.tick)
    → (filter (up_to c.args.tick) c.self.inside.journal.items ≡ c.self.inside.journal.items)
    × (filter (behind c.args.tick) c.self.inside.journal.items ≡ [])
split c t =
    let js = c.self.inside.journal.items in
    let within = subst (λ (g : Option ℕ). AllByRecursion (λ (j : Journaled). IsTrue (is_within g j.tick)) js)
    c.in-Some.is c.self.invariant.stands.within in
    all_up_to c.in-Some.greatest c.args.tick js (leb-true c.in-Some.greatest c.args.tick t) within

pub returns-in-Some-clause-journal : goal.returns-in-Some-clause-journal
returns-in-Some-clause-journal c t = subst (λ (s : Stripe). filter (up_to c.args.tick) s.journal ≡ s.journal)
    c.self.view_is (split c t).0

pub returns-in-Some-clause-rest : goal.returns-in-Some-clause-rest
returns-in-Some-clause-rest c t = subst (λ (s : Stripe). filter (behind c.args.tick) s.journal ≡ []) c.self.view_is
    (split c t).1
