use Rattle.eve_votes.specs.Ballots.{IsStart}
use Rattle.eve_votes.specs.inner.Majority.{HasLead}
use Rattle.eve_votes.proofs.LeadingTokens.{votes_before}
use Rattle.eve_votes.proofs.majority.leader.Given as goal

abbrev pub invariant-loop-verifier : goal.invariant-loop-verifier
invariant-loop-verifier l = record {
  start : IsStart l.ballots l.at l.seq l.view l.verifier;
  leads : HasLead (votes_before l.trace l.seq l.view l.verifier) l.verifier l.lead;
}
