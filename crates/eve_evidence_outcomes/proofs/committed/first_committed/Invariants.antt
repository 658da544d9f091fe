use Rattle.std.proofs.Common.{◌≡◌, ℕ, ◌<◌, None}
use Rattle.eve_grammar.specs.Trace.{Trace}
use Rattle.eve_history.specs.SectionHistory.{section_histories, committed_at}
use Rattle.eve_evidence_outcomes.proofs.committed.first_committed.Given as goal

abbrev pub invariant-loop-e : goal.invariant-loop-e
invariant-loop-e l =
    (u : ℕ) → u < l.e → (t : Trace) → l.histories ≡ section_histories t → committed_at t u l.n ≡ None
