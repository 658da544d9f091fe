use Rattle.eve_votes.specs.Decisions.{Judging}
use Rattle.eve_votes.proofs.DecisionLaws.{AreJudged}
use Rattle.eve_votes.proofs.decisions.decide.Given as goal

abbrev pub invariant-loop-i : goal.invariant-loop-i
invariant-loop-i l = record {
  judging : Judging l.trace l.decisions.items l.least;
  judged : AreJudged l.trace l.ballots l.i l.decisions.items l.least;
}
