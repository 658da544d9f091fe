-- What shows a fault of votes. docs/MODEL.md, "Decided, rolled back".
use Rattle.std.specs.Prelude.{◌≡◌, ◌<◌, ℕ, List, IsTrue, IsFalse, length}
use Rattle.std.specs.List.{AllByRecursion}
use Rattle.eve_grammar.specs.Trace.{Vote, Trace}
use Rattle.eve_grammar.specs.Bodies.{borrowed_choice}
use Rattle.eve_grammar.specs.Spelling.{votes_at}
use Rattle.eve_views.specs.Form.{SomePlace}
use Rattle.eve_votes.specs.Votes.{is_vote_on}
use Rattle.eve_evidence.specs.declared.evidence.SecondVote.{SecondVote}

-- this vote is the first of these on the batch in the view
abbrev pub IsFirstOn : List (ℕ × Vote) → ℕ → ℕ → ℕ × Vote → Type 0
IsFirstOn ws n view first =
    SomePlace ws (λ earlier u. (u ≡ first) × IsTrue (is_vote_on n view u.1)
    × AllByRecursion (λ z. IsFalse (is_vote_on n view z.1)) earlier)

-- A vote and, of those before it, the first on its batch in its view.
pub record IsSecond (before : List (ℕ × Vote)) (w : ℕ × Vote) (s : SecondVote) : Type 0 where
  pub batch_is : s.batch ≡ w.1.seq
  pub view_is : s.view ≡ w.1.view
  pub choice_is : borrowed_choice s.choice ≡ w.1.choice
  pub earliest : ℕ × Vote
  pub first : IsFirstOn before w.1.seq w.1.view earliest
  pub first_is : s.first ≡ earliest.0
  pub first_choice_is : borrowed_choice s.first_choice ≡ earliest.1.choice

-- of a verifier's votes the one at byte `at` has an earlier one on its batch in its view
abbrev pub IsAgain : List (ℕ × Vote) → ℕ → SecondVote → Type 0
IsAgain ws at s = SomePlace ws (λ before w. (w.0 ≡ at) × IsSecond before w s)

-- of those of the verifier that is told
abbrev pub IsVotedAgain : Trace → ℕ → SecondVote → Type 0
IsVotedAgain t at s = (s.verifier < length t.verifiers) × IsAgain (votes_at t s.verifier) at s
