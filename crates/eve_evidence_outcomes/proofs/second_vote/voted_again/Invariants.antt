use Rattle.std.proofs.Common.{◌≡◌, ℕ, ◌<◌}
use Rattle.eve_views.specs.Form.{SomePlace}
use Rattle.eve_grammar.specs.Spelling.{votes_at}
use Rattle.eve_votes.specs.Faults.{IsFurther}
use Rattle.eve_evidence_outcomes.proofs.second_vote.voted_again.Given as goal

abbrev pub invariant-loop-v : goal.invariant-loop-v
invariant-loop-v l =
    (u : ℕ) → u < l.v → ¬ SomePlace (votes_at l.trace u) (λ before w. (w.0 ≡ l.at) × IsFurther before w)
