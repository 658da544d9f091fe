use Rattle.std.proofs.Common.{ℕ, ◌≤◌}
use Rattle.eve_evidence_outcomes.specs.Outcome.{HasThatOfFirst}
use Rattle.eve_evidence_outcomes.proofs.outcome.outcome_evidence.Given as goal

abbrev pub invariant-loop-n : goal.invariant-loop-n
invariant-loop-n l = (m : ℕ) → 1 ≤ m → m ≤ l.n → HasThatOfFirst l.trace l.e l.place m
