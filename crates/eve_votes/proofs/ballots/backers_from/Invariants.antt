use Rattle.std.proofs.Common.{◌≡◌, take, count_by, filter}
use Rattle.eve_grammar.specs.Bodies.{borrowed_choice}
use Rattle.eve_votes.specs.Votes.{is_only, is_vote_on}
use Rattle.eve_votes.specs.Ballots.{IsStart}
use Rattle.eve_votes.proofs.ballots.backers_from.Given as goal

abbrev pub invariant-loop-verifier : goal.invariant-loop-verifier
invariant-loop-verifier l = record {
  count : l.count ≡ count_by (λ votes. is_only (borrowed_choice l.choice) (filter (is_vote_on l.seq l.view) votes))
      (take l.verifier l.trace.verifiers);
  start : IsStart l.ballots l.at l.seq l.view l.verifier;
}
