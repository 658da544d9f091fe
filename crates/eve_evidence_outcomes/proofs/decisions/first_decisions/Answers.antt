use Rattle.std.proofs.Common.{◌≡◌, ℕ, ◌+◌, refl, sym, ap, subst, ◌∙◌}
use Rattle.eve_grammar.specs.Trace.{Trace}
use Rattle.eve_votes.specs.Faults.{HasTwoDecisions}
use Rattle.eve_votes.specs.NextDecision.{IsNextDecision}
use Rattle.eve_votes.specs.declared.decided.Decided.{Decided}
use Rattle.eve_evidence_outcomes.specs.Decisions.{decided_of}
use Rattle.eve_evidence_outcomes.proofs.DecidedViews.{no_first, no_second}
use Rattle.eve_evidence_outcomes.proofs.decisions.first_decisions.Goals as goal

pub returns-in_default-clause-none : goal.returns-in_default-clause-none
returns-in_default-clause-none c =
    subst (λ (t : Trace). ¬ HasTwoDecisions t c.args.n) c.requires
    (no_first c.args.votes.now c.args.n c.in_default.ensures.none)

pub returns-in_default-next_decision-clause-none : goal.returns-in_default-next_decision-clause-none
returns-in_default-next_decision-clause-none c =
    subst (λ (t : Trace). ¬ HasTwoDecisions t c.args.n) c.requires
    (no_second c.args.votes.now c.args.n c.in-Some.first (c.from.result + 1) c.in-Some.ensures.next
    (ap (λ (k : ℕ). k + 1) c.from.ensures) c.in_default-next_decision.ensures.none)

pub returns-clause-told : goal.returns-clause-told
returns-clause-told c =
    let n = c.args.n in
    let from : c.from.result + 1 ≡ c.told.result.view + 1 =
    ap (λ (k : ℕ). k + 1) (c.from.ensures ∙ sym (ap (λ (d : Decided). d.view) c.told.ensures)) in
    let first : IsNextDecision c.args.trace.now n 0 (decided_of c.told.result) =
    subst (λ (t : Trace). IsNextDecision t n 0 (decided_of c.told.result)) c.requires
    (subst (IsNextDecision c.args.votes.now n 0) (sym c.told.ensures) c.in-Some.ensures.next) in
    let second : IsNextDecision c.args.trace.now n (c.told.result.view + 1) (decided_of c.told-2.result) =
    subst (λ (t : Trace). IsNextDecision t n (c.told.result.view + 1) (decided_of c.told-2.result)) c.requires
    (subst (λ (k : ℕ). IsNextDecision c.args.votes.now n k (decided_of c.told-2.result)) from
    (subst (IsNextDecision c.args.votes.now n (c.from.result + 1)) (sym c.told-2.ensures)
    c.in-Some-next_decision.ensures.next)) in
    (refl, record { first_is = first; second_is = second; verifiers_are = c.verifier_count.ensures })
