-- Each section of a run is right, and its committed attempts have the tokens that are due.
use Rattle.std.proofs.Common.{◌≡◌, ℕ, sym, ap}
use Rattle.eve_grammar.specs.Trace.{Trace, opening_rows}
use Rattle.eve_grammar.specs.declared.head.Head.{Head}
use Rattle.eve_history.specs.SectionHistory.{IsRightSection}
use Rattle.eve_agree.specs.DueTokens.{TokensAreDue}
use Rattle.eve_workload.specs.declared.mixer.Mixer.{Mixer}
use Rattle.eve_workload.specs.Workload.{Workload, customer_names}
use Rattle.eve_attempts.specs.Ledgers.{opening}
use Rattle.eve_replica.specs.Run.{IsTraceOf, run_plan}
use Rattle.eve_run_laws.proofs.LedgersAlike.{IsPlanOf}
use Rattle.eve_run_laws.proofs.RightSteps.{step_alike}
use Rattle.eve_run_laws.proofs.SectionSteps.{right_section, kept}
use Rattle.eve_run_laws.proofs.DueTokens.{AreDueSoFar, due_next, due_first, tokens_due}

module _ (w : Workload) (mixer : Mixer) (t : Trace) (run : IsTraceOf w mixer t) where
  -- the run's plan is one of its trace
  pub plan_of : IsPlanOf (run_plan w mixer) t
  plan_of = record {
    names = ap customer_names (sym run.customers);
    batches = sym run.batches;
    first =
        let workers : w.deployment.workers ≡ t.head.workers = sym (ap (λ (h : Head). h.workers) run.head) in
        let window : w.deployment.window ≡ t.head.window = sym (ap (λ (h : Head). h.window) run.head) in
        let customers : w.customers ≡ t.customers = sym run.customers in
        let version : w.format ≡ t.head.version = sym (ap (λ (h : Head). h.version) run.head) in
        λ i. opening (version i) (opening_rows (customers i)) (workers i) (window i);
  }

  pub sections_right : (e : ℕ) → IsRightSection t e
  sections_right = right_section (run_plan w mixer) t plan_of run.sections

  pub sections_due : (e : ℕ) → TokensAreDue t e
  sections_due e =
      let p = run_plan w mixer in
      tokens_due t e (sections_right e) (kept p t plan_of run.sections (AreDueSoFar t)
      (λ s old new at x here makes far. due_next p t s old new at x here
      (step_alike p t plan_of s old new at x here makes) makes far)
      (due_first t) e)
