-- Who voted for what. docs/MODEL.md, "Decided, rolled back" and "Evidence".
use Rattle.std.specs.Prelude.{◌≡◌, ℕ, ◌<◌, ◌≤◌, if◌then◌else◌, List, [], ◌∷◌, filter, length, Option}
use Rattle.std.specs.Prelude.{Some, None}
use Rattle.std.specs.Prelude.{⊤, ◌⊎◌}
use Rattle.eve_grammar.specs.Trace.{Choice, ForRollback, ForCommit, Vote, Trace}
use Rattle.eve_grammar.specs.Bodies.{borrowed_choice}
use Rattle.eve_grammar.specs.Spelling.{votes_at}
use Rattle.eve_votes.specs.Votes.{same_choice, is_vote_on, backers}
use Rattle.eve_evidence.specs.declared.evidence.Poll.{Poll}
use Rattle.eve_evidence.specs.declared.evidence.TransferPoll.{TransferPoll}
use Rattle.eve_evidence.specs.declared.evidence.VerifierVote.{VerifierVote}
use Rattle.eve_evidence.specs.declared.evidence.VerifierVote.TheVariants.{For, Otherwise, NoVote}
use Rattle.eve_evidence.specs.declared.evidence.VerifierChoice.{VerifierChoice}
use Rattle.eve_evidence.specs.declared.evidence.VerifierChoice.TheVariants as voted
use Rattle.eve_evidence_outcomes.specs.Places.{HoldsEach}

-- of these votes those on the batch in the view
abbrev pub votes_on : ℕ → ℕ → List (ℕ × Vote) → List (ℕ × Vote)
votes_on n view ws = filter (λ w. is_vote_on n view w.1) ws

-- ---- for or against a choice

-- what a verifier with these votes on a batch in a view did about a choice: with two votes it counts for none
abbrev pub vote_told : Choice → List (ℕ × Vote) → VerifierVote
vote_told choice [] = NoVote
vote_told choice (w ∷ []) = if same_choice w.1.choice choice then For w.0 else Otherwise w.0
vote_told choice (w ∷ u ∷ ws) = Otherwise w.0

-- what each verifier did, in their order
abbrev pub AreToldVotes : Trace → ℕ → ℕ → Choice → List VerifierVote → Type 0
AreToldVotes t n view choice votes =
    HoldsEach (length t.verifiers) (λ v x. x ≡ vote_told choice (votes_on n view (votes_at t v))) votes

-- Who voted for this choice on the batch in the view, and that they are no quorum.
pub record IsPoll (t : Trace) (n view : ℕ) (choice : Choice) (p : Poll) : Type 0 where
  pub batch_is : p.batch ≡ n
  pub view_is : p.view ≡ view
  pub choice_is : borrowed_choice p.choice ≡ choice
  pub found_is : p.found ≡ backers t n view choice
  pub due_is : p.due ≡ t.head.quorum
  pub short : p.found < p.due
  pub verifiers_are : p.verifiers ≡ length t.verifiers
  pub votes_are : AreToldVotes t n view choice p.votes

-- ---- whatever the choice

-- what a verifier with these votes on a batch in a view said first
abbrev pub TellsChoice : List (ℕ × Vote) → VerifierChoice → Type 0
TellsChoice [] voted.NoVote = ⊤
TellsChoice (w ∷ ws) (voted.Commit token at) = (w.1.choice ≡ ForCommit token.now) × (w.0 ≡ at)
TellsChoice (w ∷ ws) (voted.Rollback at) = (w.1.choice ≡ ForRollback) × (w.0 ≡ at)
TellsChoice _ _ = ⊥

-- what each verifier said, in their order
abbrev pub AreToldChoices : Trace → ℕ → ℕ → List VerifierChoice → Type 0
AreToldChoices t n view votes = HoldsEach (length t.verifiers) (λ v. TellsChoice (votes_on n view (votes_at t v))) votes

-- the most verifiers that are for the commit of the batch in the view with one token
pub record IsMost (t : Trace) (n view most : ℕ) : Type 0 where
  pub reached : (token : List ℕ) × (most ≡ backers t n view (ForCommit token))
  pub all : (token : List ℕ) → backers t n view (ForCommit token) ≤ most

-- Who voted for some commit of the batch in the view, and that with no token they are a quorum.
pub record IsTransferPoll (t : Trace) (n view : ℕ) (p : TransferPoll) : Type 0 where
  pub batch_is : p.batch ≡ n
  pub view_is : p.view ≡ view
  pub found_is : IsMost t n view p.found
  pub due_is : p.due ≡ t.head.quorum
  pub short : p.found < p.due
  pub verifiers_are : p.verifiers ≡ length t.verifiers
  pub votes_are : AreToldChoices t n view p.votes

-- the token of a commit that was voted for
abbrev pub chosen : Choice → Option (List ℕ)
chosen ForRollback = None
chosen (ForCommit token) = Some token

-- the token that a verifier with these votes counts for: it has one vote, and that is for a commit
abbrev pub only_commit : List (ℕ × Vote) → Option (List ℕ)
only_commit (w ∷ []) = chosen w.1.choice
only_commit _ = None

-- that many verifiers are for the commit with one token, or it is 0
abbrev pub IsSomeCount : Trace → ℕ → ℕ → ℕ → Type 0
IsSomeCount t n view count = (count ≡ 0) ⊎ ((token : List ℕ) × (count ≡ backers t n view (ForCommit token)))
