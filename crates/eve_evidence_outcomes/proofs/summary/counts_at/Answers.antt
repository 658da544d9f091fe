use Rattle.std.proofs.Common.{subst}
use Rattle.eve_history.specs.SectionHistory.{SectionHistory}
use Rattle.eve_evidence_outcomes.specs.Counts.{IsReplicaCounts}
use Rattle.eve_evidence_outcomes.proofs.summary.counts_at.Goals as goal

pub returns : goal.returns
returns c =
    subst (λ (k : SectionHistory). IsReplicaCounts k c.counts_of.result) c.history_at.ensures c.counts_of.ensures
