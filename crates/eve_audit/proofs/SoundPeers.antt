-- Sound replicas, beside which others are judged.
use Rattle.std.proofs.Common.{◌≡◌, ℕ, sym, ap, subst, ◌∙◌}
use Rattle.eve_grammar.specs.Trace.{Trace}
use Rattle.eve_chains.specs.CommittedValues.{settling}
use Rattle.eve_agree.specs.DueTokens.{TokensAreDue}
use Rattle.eve_agree.specs.ShownTokens.{IsDueReplica}
use Rattle.eve_audit.specs.declared.replicas.Report.{Report}
use Rattle.eve_audit.specs.Reports.{IsReportOf, IsReportBeforeTokens}
use Rattle.eve_audit.proofs.ToldReplicas.{replica_told, section_history_by_its_own}

-- the tokens of a replica with no fault of its own are due
pub due_of_report : (t : Trace) (e : ℕ) (report : Report) → IsReportOf t e report
    → IsDueReplica t report.history report.settled
due_of_report t e report is =
    let own : e ≡ report.history.replica = sym (replica_told t e report.history is.history) in
    record {
      history = section_history_by_its_own t e report.history is.history;
      settled = is.settled ∙ ap (settling t) own;
      due = subst (TokensAreDue t) own is.sound.tokens;
    }

-- a report by the number that its history names
pub settled_by_its_own : (t : Trace) (e : ℕ) (report : Report) → IsReportBeforeTokens t e report
    → IsReportBeforeTokens t report.history.replica report
settled_by_its_own t e report is =
    subst (λ (k : ℕ). IsReportBeforeTokens t k report) (sym (replica_told t e report.history is.history)) is
