-- What was found in the replicas so far, and what was kept of them; and what was found is true.
use Rattle.eve_audit.specs.inner.Findings.{AreTrue}
use Rattle.eve_audit.specs.Reports.{IsJudgedBelow}
use Rattle.eve_audit.proofs.replicas.all_reports.Given as goal

abbrev pub invariant-replicas : goal.invariant-replicas
invariant-replicas g l = IsJudgedBelow l.named.trace l.e l.first l.kept.histories.items l.kept.settled.items
    l.kept.committed × AreTrue l.named.trace l.findings
