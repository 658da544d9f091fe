use Rattle.std.proofs.Common.{ℕ, ◌≤◌}
use Rattle.eve_evidence_outcomes.specs.Outcomes.{IsRightAt}
use Rattle.eve_evidence_outcomes.proofs.state.state_evidence.Given as goal

abbrev pub invariant-loop-n : goal.invariant-loop-n
invariant-loop-n l = (m : ℕ) → 1 ≤ m → m ≤ l.n → IsRightAt l.trace l.e l.place m
