use Rattle.eve_votes.proofs.Faultless.{voted_for}
use Rattle.eve_votes.proofs.laws.decided_commits_have_a_vote.Goals as goal

pub returns : goal.returns
returns c = λ t n view token limits. voted_for t limits n view token
