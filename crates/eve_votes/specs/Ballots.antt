-- The votes of a trace, by batch, view and verifier. docs/MODEL.md, "Decided, rolled back".
use Rattle.std.specs.Prelude.{◌≡◌, ◌≢◌, ℕ, ◌<◌, ◌≤◌, ◌-◌, ◌+◌, ◌==◌, nat_lt, Bool, false, ◌&&◌, ◌||◌, List, [], ◌∷◌}
use Rattle.std.specs.Prelude.{◌++◌, filter, Option, Some, None, slice_get, slice_index_or, length, IsTrue}
use Rattle.eve_grammar.specs.Trace.{Choice, Vote, Trace}
use Rattle.eve_grammar.specs.Spelling.{votes_of}
use Rattle.eve_views.specs.Order.{AreInOrder}
use Rattle.eve_votes.specs.Votes.{same_choice, is_vote_on}
use Rattle.eve_votes.specs.declared.ballots.Ballot.{Ballot}

abbrev pub ballot : ℕ → ℕ → Vote → Ballot
ballot v place w = record { seq = w.seq; view = w.view; verifier = v; place = place }

-- a verifier's votes, the first of them at this place
abbrev pub ballots_from : ℕ → ℕ → List Vote → List Ballot
ballots_from v place [] = []
ballots_from v place (w ∷ ws) = ballot v place w ∷ ballots_from v (place + 1) ws

-- those of several verifiers, the first of them with this number
abbrev pub ballots_among : ℕ → List (List Vote) → List Ballot
ballots_among v [] = []
ballots_among v (ws ∷ wss) = ballots_from v 0 ws ++ ballots_among (v + 1) wss

-- all votes of a trace
abbrev pub ballots_of : Trace → List Ballot
ballots_of t = ballots_among 0 t.verifiers

-- both are a verifier's on one batch in one view
abbrev pub is_alike : Ballot → Ballot → Bool
is_alike a b = (a.seq == b.seq) && ((a.view == b.view) && (a.verifier == b.verifier))

-- both are on one batch in one view
abbrev pub is_fellow : Ballot → Ballot → Bool
is_fellow a b = (a.seq == b.seq) && (a.view == b.view)

-- there is one at this place, and it is alike
abbrev pub is_at : List Ballot → ℕ → Ballot → Bool
is_at xs i b = nat_lt i (length xs) && is_alike (slice_index_or xs i b) b

-- on an earlier batch, or on the same in an earlier view
abbrev pub is_lower : ℕ → ℕ → Ballot → Bool
is_lower n view b = nat_lt b.seq n || ((b.seq == n) && nat_lt b.view view)

-- there is a vote, and it is for this
abbrev pub is_for : Choice → Option Choice → Bool
is_for choice None = false
is_for choice (Some vote) = same_choice vote choice

-- the one comes before the other: by batch, then by view, then by verifier
pub record IsBefore (a b : Ballot) : Type 0 where
  pub seq : a.seq ≤ b.seq
  pub view : b.seq ≤ a.seq → a.view ≤ b.view
  pub verifier : b.seq ≤ a.seq → b.view ≤ a.view → a.verifier < b.verifier

-- the one doesn't come after the other: by batch, then by view, then by verifier, then by place
pub record IsNoLaterBallot (a b : Ballot) : Type 0 where
  pub seq : a.seq ≤ b.seq
  pub view : b.seq ≤ a.seq → a.view ≤ b.view
  pub verifier : b.seq ≤ a.seq → b.view ≤ a.view → a.verifier ≤ b.verifier
  pub place : b.seq ≤ a.seq → b.view ≤ a.view → b.verifier ≤ a.verifier → a.place ≤ b.place

-- here the votes on the batch in this view begin, of this verifier and those after it
pub record IsStart (xs : List Ballot) (start n view v : ℕ) : Type 0 where
  pub before : (i : ℕ) (b : Ballot) → i < start → slice_get xs i ≡ Some b →
      IsBefore b (record { seq = n; view = view; verifier = v; place = 0 })
  pub behind : (i : ℕ) (b : Ballot) → start ≤ i → slice_get xs i ≡ Some b →
      IsNoLaterBallot (record { seq = n; view = view; verifier = v; place = 0 }) b

-- the vote at this place and the one before it stand so to each other
pub record Adjoin (test : Ballot → Ballot → Bool) (xs : List Ballot) (i : ℕ) : Type 0 where
  pub some : 1 ≤ i
  pub former : Ballot
  pub later : Ballot
  pub former_is : slice_get xs (i - 1) ≡ Some former
  pub later_is : slice_get xs i ≡ Some later
  pub alike : IsTrue (test former later)

-- they are a verifier's on one batch in one view
abbrev pub FollowsAlike : List Ballot → ℕ → Type 0
FollowsAlike xs i = Adjoin is_alike xs i

-- they are on one batch in one view
abbrev pub Continues : List Ballot → ℕ → Type 0
Continues xs i = Adjoin is_fellow xs i

-- it is one of the votes of the trace
pub record IsVoteOf (t : Trace) (b : Ballot) : Type 0 where
  pub vote : Vote
  pub there : slice_get (votes_of t b.verifier) b.place ≡ Some vote
  pub seq : vote.seq ≡ b.seq
  pub view : vote.view ≡ b.view

-- these are the votes of the trace, each once, in order
pub record HasVotes (t : Trace) (xs : List Ballot) : Type 0 where
  pub each : (i : ℕ) (b : Ballot) → slice_get xs i ≡ Some b → IsVoteOf t b
  pub all : (v place : ℕ) (w : Vote) → slice_get (votes_of t v) place ≡ Some w → (i : ℕ) ×
      (slice_get xs i ≡ Some (ballot v place w))
  pub once : (i j : ℕ) (a b : Ballot) → i < j → slice_get xs i ≡ Some a → slice_get xs j ≡ Some b →
      a.verifier ≡ b.verifier → a.place ≢ b.place
  pub order : AreInOrder IsNoLaterBallot xs

-- it is one of the votes of the trace, and its verifier's only one on the batch in this view
pub record IsOnly (t : Trace) (b : Ballot) : Type 0 where
  pub vote : Vote
  pub there : slice_get (votes_of t b.verifier) b.place ≡ Some vote
  pub only : filter (is_vote_on b.seq b.view) (votes_of t b.verifier) ≡ vote ∷ []

-- the only vote of this verifier on the batch in this view is at some place
abbrev pub IsAmong : List Ballot → ℕ → ℕ → ℕ → Type 0
IsAmong xs n view v = (i : ℕ) × (b : Ballot) × (slice_get xs i ≡ Some b) × (b.seq ≡ n) × (b.view ≡ view) ×
    (b.verifier ≡ v)

-- these are the votes of the trace that are the only ones of their verifier on the batch in this view, in order
pub record HasCast (t : Trace) (xs : List Ballot) : Type 0 where
  pub each : (i : ℕ) (b : Ballot) → slice_get xs i ≡ Some b → IsOnly t b
  pub all : (n view v : ℕ) (w : Vote) → filter (is_vote_on n view) (votes_of t v) ≡ w ∷ [] → IsAmong xs n view v
  pub order : AreInOrder IsBefore xs
