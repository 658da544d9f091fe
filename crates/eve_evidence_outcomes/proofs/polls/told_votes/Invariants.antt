use Rattle.std.proofs.Common.{◌≡◌, length}
use Rattle.eve_grammar.specs.Bodies.{borrowed_choice}
use Rattle.eve_grammar.specs.Spelling.{votes_at}
use Rattle.eve_evidence_outcomes.specs.Places.{HoldsEach}
use Rattle.eve_evidence_outcomes.specs.Polls.{votes_on, vote_told}
use Rattle.eve_evidence_outcomes.proofs.polls.told_votes.Given as goal

abbrev pub invariant-loop-v : goal.invariant-loop-v
invariant-loop-v l = record {
  long : length l.told ≡ 16;
  each : HoldsEach l.v (λ u x. x ≡ vote_told (borrowed_choice l.choice) (votes_on l.n l.view (votes_at l.trace u)))
      l.told;
}
