-- What was found of replicas by themselves. docs/ARCHITECTURE.md, "Threads of an audit".
use Rattle.std.specs.Prelude.{ℕ, ◌<◌, List, length, Result, MatchResult, All}
use Rattle.eve_grammar.specs.Trace.{Trace}
use Rattle.eve_views.specs.Form.{IfFound}
use Rattle.eve_views.specs.declared.fault.CheckFault.{CheckFault}
use Rattle.eve_audit.specs.declared.replicas.Report.{Report}
use Rattle.eve_audit.specs.declared.findings.Finding.{Finding}
use Rattle.eve_audit.specs.Verdict.{IsOwnFault}
use Rattle.eve_audit.specs.Reports.{IsFirstOf, IsReportOf, IsReportBeforeTokens}

-- what judging a replica by itself comes to: its report, or the first of its own faults
abbrev pub IsAnswerOf : Trace → ℕ → Result Report CheckFault → Type 0
IsAnswerOf t e answer = MatchResult answer (IsReportOf t e) (λ why. IfFound why (IsFirstOf (IsOwnFault t e)))

-- the same where its tokens aren't judged yet
abbrev pub IsAnswerBeforeTokens : Trace → ℕ → Result Report CheckFault → Type 0
IsAnswerBeforeTokens t e answer =
    MatchResult answer (IsReportBeforeTokens t e) (λ why. IfFound why (IsFirstOf (IsOwnFault t e)))

-- each finding is of the replica that it names
abbrev pub AreTrue : Trace → List Finding → Type 0
AreTrue t = All (λ f. IsAnswerOf t f.replica f.answer)

-- so it is, where tokens aren't judged yet
abbrev pub AreTrueSoFar : Trace → List Finding → Type 0
AreTrueSoFar t = All (λ f. IsAnswerBeforeTokens t f.replica f.answer)

-- each finding is of one of the trace's replicas
abbrev pub AreOfReplicas : Trace → List Finding → Type 0
AreOfReplicas t = All (λ f. f.replica < length t.sections)
