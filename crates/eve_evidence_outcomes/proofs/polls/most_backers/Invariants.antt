use Rattle.eve_evidence_outcomes.specs.Polls.{IsSomeCount}
use Rattle.eve_evidence_outcomes.proofs.Backers.{IsMostOf}
use Rattle.eve_evidence_outcomes.proofs.polls.most_backers.Given as goal

abbrev pub invariant-loop-v : goal.invariant-loop-v
invariant-loop-v l = record {
  reached : IsSomeCount l.trace l.n l.view l.most;
  all : IsMostOf l.trace l.n l.view l.v l.most;
}
