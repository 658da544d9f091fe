-- A vote for a commit. docs/MODEL.md, "Decided, rolled back".
use Rattle.std.specs.Prelude.{◌≡◌, ℕ, ◌<◌, List, length, slice_get, Some}
use Rattle.eve_grammar.specs.Trace.{ForCommit, Vote, Trace}
use Rattle.eve_grammar.specs.Spelling.{votes_of}

-- some verifier has a vote for committing the batch in that view, with this token
pub record IsVotedFor (t : Trace) (n view : ℕ) (token : List ℕ) : Type 0 where
  pub verifier : ℕ
  pub place : ℕ
  pub vote : Vote
  pub verifies : verifier < length t.verifiers
  pub there : slice_get (votes_of t verifier) place ≡ Some vote
  pub seq : vote.seq ≡ n
  pub in_view : vote.view ≡ view
  pub commit : vote.choice ≡ ForCommit token
