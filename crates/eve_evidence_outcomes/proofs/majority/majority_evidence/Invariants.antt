use Rattle.std.proofs.Common.{length}
use Rattle.eve_evidence_outcomes.proofs.MissingMajorities.{Ahead}
use Rattle.eve_evidence_outcomes.proofs.majority.majority_evidence.Given as goal

abbrev pub invariant-loop-step : goal.invariant-loop-step
invariant-loop-step l = Ahead l.code l.trace l.e l.place l.steps

abbrev pub decreases-loop-step : goal.decreases-loop-step
decreases-loop-step l = length l.steps
