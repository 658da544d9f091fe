use Rattle.std.proofs.Common.{◌≡◌, Option, IfSome, sym, ◌∙◌, subst}
use Rattle.eve_views.specs.Form.{IsLeast, IsFaultOutside}
use Rattle.eve_views.specs.First.{first_of}
use Rattle.eve_views.specs.declared.fault.Fault.{Fault}
use Rattle.eve_votes.specs.Decisions.{AreDecisions}
use Rattle.eve_votes.proofs.TallyLaws.{first_of_both, first_is_least, not_apart, none_stands, votes_sound}
use Rattle.eve_votes.specs.Faults.{StandsInVotes}
use Rattle.eve_votes.proofs.tally.Tally.of.Goals as goal

pub returns-in-Some-clause-least : goal.returns-in-Some-clause-least
returns-in-Some-clause-least c =
    let t = c.args.trace.now in
    let again = c.in_ok-again.again in
    let apart = c.decide-apart.result in
    let told : c.first_of.result ≡ first_of_both again apart =
    c.first_of.ensures ∙ (λ k. first_of (c.outside.ensures k) (c.outside-2.ensures k)) in
    subst (λ (o : Option Fault). IfSome o (IsLeast (IsFaultOutside StandsInVotes t))) (sym told ∙ c.in-Some.is)
    (first_is_least t again apart c.in_ok-again.ensures.least c.decide-apart.ensures.least)

pub invariant_of-result : goal.invariant_of-result
invariant_of-result c =
    let again = c.in_ok-again.again in
    let apart = c.decide-apart.result in
    let told : c.first_of.result ≡ first_of_both again apart =
    c.first_of.ensures ∙ (λ k. first_of (c.outside.ensures k) (c.outside-2.ensures k)) in
    record {
      cast = c.in_ok-again.ensures.only;
      decisions = not_apart again apart (AreDecisions c.args.trace.now c.decide-apart.new.decisions.items)
          (sym told ∙ c.in-None.is) c.decide-apart.ensures.decided;
    }

pub returns-clause-sound : goal.returns-clause-sound
returns-clause-sound c =
    let t = c.args.trace.now in
    let ds = c.decide-apart.new.decisions.items in
    let again = c.in_ok-again.again in
    let apart = c.decide-apart.result in
    let told : c.first_of.result ≡ first_of_both again apart =
    c.first_of.ensures ∙ (λ k. first_of (c.outside.ensures k) (c.outside-2.ensures k)) in
    let none = sym told ∙ c.in-None.is in
    votes_sound t ds again apart c.in_ok-again.ensures.least none
    (not_apart again apart (AreDecisions t ds) none c.decide-apart.ensures.decided)

pub returns-clause-none : goal.returns-clause-none
returns-clause-none c =
    let again = c.in_ok-again.again in
    let apart = c.decide-apart.result in
    let told : c.first_of.result ≡ first_of_both again apart =
    c.first_of.ensures ∙ (λ k. first_of (c.outside.ensures k) (c.outside-2.ensures k)) in
    none_stands c.args.trace.now again apart c.in_ok-again.ensures.least c.decide-apart.ensures.least
    (sym told ∙ c.in-None.is)
