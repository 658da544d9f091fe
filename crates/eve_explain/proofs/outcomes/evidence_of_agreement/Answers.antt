use Rattle.std.proofs.Common.{◌≡◌, ℕ, Some, inl, sym, subst, ◌∙◌, arith}
use Rattle.std.proofs.lemmas.Option.{same_Some}
use Rattle.std.proofs.lemmas.Result.{IfOk-weaker}
use Rattle.eve_views.specs.declared.fault.Code.{Code}
use Rattle.eve_agree.specs.Agreement.{StandsInAgreement}
use Rattle.eve_evidence_outcomes.specs.Outcome.{TellsOutcome}
use Rattle.eve_evidence_outcomes.specs.Outcomes.{TellsState}
use Rattle.eve_explain.proofs.FirstFault.{agreement_first, no_records_or_chains}
use Rattle.eve_explain.proofs.outcomes.evidence_of_agreement.Goals as goal

pub histories_of-requires-clause-together : goal.histories_of-requires-clause-together
histories_of-requires-clause-together g c = omega (arith, c.requires.agreement)

pub all_settled-requires-clause-none : goal.all_settled-requires-clause-none
all_settled-requires-clause-none g c κs within = λ e there.
    no_records_or_chains c.bytes_spell_one_trace.ensures c.args.trace.now c.args.fault.now c.requires.first e
    (inl (omega (arith, c.requires.agreement))) there

pub outcome_evidence-requires-clause-there : goal.outcome_evidence-requires-clause-there
outcome_evidence-requires-clause-there g c =
    (agreement_first c.bytes_spell_one_trace.ensures c.args.trace.now c.args.fault.now c.requires.first
    c.requires.agreement c.in-Some.e c.in-Some.is).there

pub outcome_evidence-requires-clause-stands : goal.outcome_evidence-requires-clause-stands
outcome_evidence-requires-clause-stands g c =
    let t = c.args.trace.now in
    let f = c.args.fault.now in
    subst (λ (k : Code). StandsInAgreement k t c.in-Some.e f.offset) c.in-Outcome.is
    (agreement_first c.bytes_spell_one_trace.ensures t f c.requires.first c.requires.agreement c.in-Some.e
    c.in-Some.is).stands

pub state_evidence-requires-clause-there : goal.state_evidence-requires-clause-there
state_evidence-requires-clause-there g c =
    (agreement_first c.bytes_spell_one_trace.ensures c.args.trace.now c.args.fault.now c.requires.first
    c.requires.agreement c.in-Some.e c.in-Some.is).there

pub state_evidence-requires-clause-stands : goal.state_evidence-requires-clause-stands
state_evidence-requires-clause-stands g c =
    let t = c.args.trace.now in
    let f = c.args.fault.now in
    subst (λ (k : Code). StandsInAgreement k t c.in-Some.e f.offset) c.in-TransferBalances.is
    (agreement_first c.bytes_spell_one_trace.ensures t f c.requires.first c.requires.agreement c.in-Some.e
    c.in-Some.is).stands

pub returns-in-Outcome-clause-outcome : goal.returns-in-Outcome-clause-outcome
returns-in-Outcome-clause-outcome g c _ =
    let t = c.args.trace.now in
    let f = c.args.fault.now in
    IfOk-weaker c.outcome_evidence.result (TellsOutcome t c.in-Some.e f.offset)
    (λ x. (e : ℕ) → f.replica ≡ Some e → TellsOutcome t e f.offset x)
    (λ x told e named. subst (λ (n : ℕ). TellsOutcome t n f.offset x)
    (same_Some c.in-Some.e e (sym c.in-Some.is ∙ named)) told)
    c.outcome_evidence.ensures.told

pub returns-in-TransferBalances-clause-state : goal.returns-in-TransferBalances-clause-state
returns-in-TransferBalances-clause-state g c _ =
    let t = c.args.trace.now in
    let f = c.args.fault.now in
    IfOk-weaker c.state_evidence.result (TellsState t c.in-Some.e f.offset)
    (λ x. (e : ℕ) → f.replica ≡ Some e → TellsState t e f.offset x)
    (λ x told e named. subst (λ (n : ℕ). TellsState t n f.offset x)
    (same_Some c.in-Some.e e (sym c.in-Some.is ∙ named)) told)
    c.state_evidence.ensures.told
