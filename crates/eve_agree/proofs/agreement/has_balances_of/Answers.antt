use Rattle.std.proofs.Common.{◌≡◌, ℕ, sym, ap, ◌∙◌}
use Rattle.std.proofs.lemmas.Bool.{false≢true}
use Rattle.std.proofs.lemmas.Option.{same_Some}
use Rattle.eve_chains.proofs.LinkedPaths.{none≢some}
use Rattle.eve_chains.specs.Committed.{balances_to}
use Rattle.eve_agree.proofs.AtNumber.{first_there}
use Rattle.eve_agree.proofs.agreement.has_balances_of.Goals as goal

pub replica_at-its-requires-clause-there : goal.replica_at-its-requires-clause-there
replica_at-its-requires-clause-there c =
    first_there c.args.trace.now c.args.replicas c.requires.all c.in-Some.f (sym c.requires.first ∙ c.in-Some.is)

pub returns-in-Some : goal.returns-in-Some
returns-in-Some c =
    let t = c.args.trace.now in
    let n = c.args.replicas.number in
    let f = c.in-Some.f in
    let first = sym c.requires.first ∙ c.in-Some.is in
    let own = c.replica_at-own.ensures.balances in
    let its = c.replica_at-its.ensures.balances in (
      λ same. (f, first, sym own ∙ c.are_same.ensures.0 same ∙ its),
      λ has.
          let one : has.0 ≡ f = same_Some has.0 f (sym has.1 ∙ first) in
          c.are_same.ensures.1 (own ∙ has.2 ∙ ap (λ (k : ℕ). balances_to t k n) one ∙ sym its),
    )

pub returns-in-None : goal.returns-in-None
returns-in-None c = (
  λ yes. absurd (false≢true yes),
  λ has. none≢some has.0 (sym (sym c.requires.first ∙ c.in-None.is) ∙ has.1),
)
