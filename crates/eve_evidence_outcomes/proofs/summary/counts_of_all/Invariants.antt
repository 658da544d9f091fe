use Rattle.std.proofs.Common.{◌≡◌, length}
use Rattle.eve_history.specs.SectionHistory.{section_history}
use Rattle.eve_evidence_outcomes.specs.Counts.{IsReplicaCounts}
use Rattle.eve_evidence_outcomes.specs.Places.{HoldsEach}
use Rattle.eve_evidence_outcomes.proofs.summary.counts_of_all.Given as goal

abbrev pub invariant-loop-e : goal.invariant-loop-e
invariant-loop-e l = record {
  long : length l.all ≡ 8;
  each : HoldsEach l.e (λ u. IsReplicaCounts (section_history l.trace u)) l.all;
}
