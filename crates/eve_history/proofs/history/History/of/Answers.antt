use Rattle.eve_views.specs.Form.{IsLeast, IsFaultIn}
use Rattle.std.proofs.Common.{ℕ, List, ◌∷◌, ◌∙◌, sym, subst, rules}
use Rattle.std.proofs.lemmas.Result.{err_from_is_err_and}
use Rattle.std.specs.List.{AllByRecursion}
use Rattle.eve_grammar.specs.Trace.{Step}
use Rattle.eve_history.specs.FrameOffsets.{IsAttemptAt, IsAccessAt, IsRollbackAt, IsTransferAt}
use Rattle.eve_grammar.specs.Spelling.{steps_at}
use Rattle.eve_grammar.specs.FrameOrder.{Spells}
use Rattle.eve_views.specs.StepKinds.{IsStep}
use Rattle.eve_views.specs.declared.fault.Fault.{Fault}
use Rattle.eve_history.specs.KeptSections.{KeptSection, kept_section, HasCome}
use Rattle.eve_history.proofs.SectionSteps.{come_start, come_ended, come_told, come_faultless}
use Rattle.eve_history.proofs.StepHandlers.{weaker_found}
use Rattle.eve_history.specs.Structure.{StandsInStructure}
use Rattle.eve_history.proofs.history.History.of.Goals as goal

pub loop-step-init : goal.loop-step-init
loop-step-init c =
    let t = c.args.trace.now in
    let e = c.args.e in (
      subst (λ (xs : List (ℕ × Step)). HasCome t e xs (kept_section c.new-notes.result)) (sym c.section-steps.ensures)
          (subst (λ (k : KeptSection). HasCome t e (steps_at t e) k) (sym c.new-notes.ensures.kept)
          (come_start t e c.recall_limits.ensures)),
      record {
        spelled = subst (λ (b : List ℕ). Spells b t) (sym c.new-notes.ensures.bytes) c.bytes.ensures;
        framed = record {
          attempts = subst (AllByRecursion (λ a. IsAttemptAt c.new-notes.result.bytes.now a.at))
              (sym c.new-notes.ensures.attempts) tt;
          records = subst (AllByRecursion (IsAccessAt c.new-notes.result.bytes.now)) (sym c.new-notes.ensures.records)
              tt;
          rollbacks = subst (AllByRecursion (IsRollbackAt c.new-notes.result.bytes.now))
              (sym c.new-notes.ensures.rollbacks) tt;
          transfers = subst (AllByRecursion (IsTransferAt c.new-notes.result.bytes.now))
              (sym c.new-notes.ensures.transfers) tt;
        };
      },
    )

pub take-requires-clause-noted : goal.take-requires-clause-noted
take-requires-clause-noted c = c.loop-step.invariant.1

pub of_notes-requires : goal.of_notes-requires
of_notes-requires c =
    let come = come_ended c.args.trace.now c.args.e (kept_section c.loop-step.notes) c.loop-step.steps (search rules)
    c.loop-step.invariant.0 in
    record { kept = come.is_kept; framed = c.loop-step.invariant.1.framed }

pub returns-in_err-take-clause-least : goal.returns-in_err-take-clause-least
returns-in_err-take-clause-least c =
    let t = c.args.trace.now in
    let e = c.args.e in
    let some = c.in-Some.ensures.some in
    let come = subst (λ (xs : List (ℕ × Step)). HasCome t e xs (kept_section c.loop-step.notes)) some.1
    c.loop-step.invariant.0
    in
    let P : Fault → Type 0 =
    λ f. (rest : List (ℕ × Step)) (next : ℕ × Step) → HasCome t e (next ∷ rest) (kept_section c.loop-step.notes)
    → IsStep c.in-Some.step next → IsLeast (IsFaultIn StandsInStructure t e) f in
    let least = weaker_found c.in_err-take.field-0.0 P (IsLeast (IsFaultIn StandsInStructure t e))
    (λ f wrong. wrong c.next.new.self some.0 come some.2) c.in_err-take.ensures.wrong in
    let p = err_from_is_err_and c.from_residual.result c.from_residual.ensures.1 in
    rw (p.1, p.2) least

pub returns-clause-section_history : goal.returns-clause-section_history
returns-clause-section_history c =
    let t = c.args.trace.now in
    let k = kept_section c.loop-step.notes in
    c.of_notes.ensures
    ∙ come_told t c.args.e k (come_ended t c.args.e k c.loop-step.steps (search rules) c.loop-step.invariant.0)

pub returns-clause-none : goal.returns-clause-none
returns-clause-none c =
    let t = c.args.trace.now in
    let k = kept_section c.loop-step.notes in
    come_faultless t c.args.e k (come_ended t c.args.e k c.loop-step.steps (search rules) c.loop-step.invariant.0)

pub loop-step-preserved : goal.loop-step-preserved
loop-step-preserved c =
    let some = c.in-Some.ensures.some in
    let come = subst (λ (xs : List (ℕ × Step)). HasCome c.args.trace.now c.args.e xs (kept_section c.loop-step.notes))
    some.1 c.loop-step.invariant.0 in
    (c.in_ok-take.ensures.handled c.next.new.self some.0 come some.2, c.in_ok-take.ensures.noted)
