use Rattle.std.proofs.Common.{sym, subst}
use Rattle.eve_agree.specs.ShownTokens.{IsDueReplica}
use Rattle.eve_audit.specs.Reports.{IsReportOf}
use Rattle.eve_audit.proofs.SoundPeers.{due_of_report}
use Rattle.eve_audit.proofs.findings.Finding.peer.Goals as goal

pub returns-in-Ok : goal.returns-in-Ok
returns-in-Ok c =
    let t = c.args.trace.now in
    let report = c.in-Ok.report in
    let is : IsReportOf t c.args.self.now.replica report = rw c.in-Ok.is at c.requires in
    subst (λ h. IsDueReplica t h c.peer.result.settled.now) (sym c.peer.ensures.history)
    (subst (IsDueReplica t report.history) (sym c.peer.ensures.settled)
    (due_of_report t c.args.self.now.replica report is))
