-- What was found of replicas stays true as it is kept and taken.
use Rattle.std.proofs.Common.{ℕ}
use Rattle.std.specs.Prelude.{Result, Ok, Err, IfOk, IfErr}
use Rattle.eve_grammar.specs.Trace.{Trace}
use Rattle.eve_views.specs.Form.{IfFound}
use Rattle.eve_views.specs.declared.fault.CheckFault.{CheckFault}
use Rattle.eve_audit.specs.declared.replicas.Report.{Report}
use Rattle.eve_audit.specs.inner.Findings.{IsAnswerBeforeTokens}
use Rattle.eve_audit.specs.Verdict.{IsOwnFault}
use Rattle.eve_audit.specs.Reports.{IsFirstOf, IsReportBeforeTokens}

module _ (t : Trace) (e : ℕ) where
  pub settled_answer : (answer : Result Report CheckFault) → IfOk answer (IsReportBeforeTokens t e)
      → IfErr answer (λ why. IfFound why (IsFirstOf (IsOwnFault t e))) → IsAnswerBeforeTokens t e answer
  settled_answer (Ok report) settled first = settled
  settled_answer (Err why) settled first = first
