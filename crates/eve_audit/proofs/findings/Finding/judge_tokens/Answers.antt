use Rattle.std.proofs.Common.{ℕ, sym, subst}
use Rattle.eve_views.specs.Form.{IfFound}
use Rattle.eve_audit.specs.Verdict.{IsOwnFault}
use Rattle.eve_audit.specs.inner.Findings.{IsAnswerOf}
use Rattle.eve_audit.specs.Reports.{IsFirstOf, IsReportOf, IsReportBeforeTokens}
use Rattle.eve_audit.proofs.SoundPeers.{settled_by_its_own}
use Rattle.eve_audit.proofs.ToldReplicas.{replica_told}
use Rattle.eve_audit.proofs.findings.Finding.judge_tokens.Goals as goal

pub check_tokens-judged-requires-clause-settled : goal.check_tokens-judged-requires-clause-settled
check_tokens-judged-requires-clause-settled g c κs within =
    settled_by_its_own c.args.trace.now c.args.self.now.replica c.in-Ok.report (rw c.in-Ok.is at c.requires.settled)

pub returns-in-Err-judged-clause-answer : goal.returns-in-Err-judged-clause-answer
returns-in-Err-judged-clause-answer g c =
    let t = c.args.trace.now in
    let e = c.args.self.now.replica in
    let report = c.in-Ok.report in
    let settled : IsReportBeforeTokens t e report = rw c.in-Ok.is at c.requires.settled in
    subst (λ (k : ℕ). IfFound c.in-Err-judged.why (IsFirstOf (IsOwnFault t k)))
    (replica_told t e report.history settled.history) c.in-Err-judged.ensures.first

pub returns-in_default-clause-answer : goal.returns-in_default-clause-answer
returns-in_default-clause-answer g c =
    let t = c.args.trace.now in
    let e = c.args.self.now.replica in
    let report = c.in-Ok.report in
    let settled : IsReportBeforeTokens t e report = rw c.in-Ok.is at c.requires.settled in
    subst (IsAnswerOf t e) (sym c.in-Ok.is) (subst (λ (k : ℕ). IsReportOf t k report)
    (replica_told t e report.history settled.history) c.in_default.ensures.report)

pub returns-in-Err-judged-clause-settled : goal.returns-in-Err-judged-clause-settled
returns-in-Err-judged-clause-settled g c =
    let t = c.args.trace.now in
    let e = c.args.self.now.replica in
    let report = c.in-Ok.report in
    let settled : IsReportBeforeTokens t e report = rw c.in-Ok.is at c.requires.settled in
    subst (λ (k : ℕ). IfFound c.in-Err-judged.why (IsFirstOf (IsOwnFault t k)))
    (replica_told t e report.history settled.history) c.in-Err-judged.ensures.first
