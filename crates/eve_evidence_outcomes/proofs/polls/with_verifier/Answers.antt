use Rattle.std.proofs.Common.{inr}
use Rattle.eve_evidence_outcomes.proofs.polls.with_verifier.Goals as goal

pub returns-in-Some-clause-reached : goal.returns-in-Some-clause-reached
returns-in-Some-clause-reached c = inr (c.in-Some.token.now, c.count_backers.ensures)
