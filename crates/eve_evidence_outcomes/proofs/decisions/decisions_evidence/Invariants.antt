use Rattle.std.proofs.Common.{◌≡◌, ℕ, ◌<◌, Some, slice_get}
use Rattle.eve_grammar.specs.Trace.{Batch}
use Rattle.eve_grammar.specs.Spelling.{batches_at}
use Rattle.eve_votes.specs.Faults.{HasTwoDecisions}
use Rattle.eve_evidence_outcomes.proofs.decisions.decisions_evidence.Given as goal

abbrev pub invariant-loop-i : goal.invariant-loop-i
invariant-loop-i l =
    (k : ℕ) (b : ℕ × (ℕ × Batch)) → k < l.i → slice_get (batches_at l.trace) k ≡ Some b
    → ¬ ((b.0 ≡ l.place) × HasTwoDecisions l.trace b.1.0)
