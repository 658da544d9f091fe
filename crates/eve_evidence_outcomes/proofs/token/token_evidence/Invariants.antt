use Rattle.std.proofs.Common.{ℕ, ◌≤◌}
use Rattle.eve_evidence_outcomes.specs.Token.{IsDueAt}
use Rattle.eve_evidence_outcomes.proofs.token.token_evidence.Given as goal

abbrev pub invariant-loop-n : goal.invariant-loop-n
invariant-loop-n l = (m : ℕ) → 1 ≤ m → m ≤ l.n → IsDueAt l.trace l.history.replica l.place m
