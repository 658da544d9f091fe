-- The faults of votes, and where they stand. docs/MODEL.md, "Faults".
use Rattle.std.specs.Prelude.{◌≡◌, ◌≢◌, ℕ, ◌≤◌, IsTrue, List, length, filter, None}
use Rattle.std.specs.List.{list_any}
use Rattle.eve_grammar.specs.Trace.{Vote, Trace}
use Rattle.eve_grammar.specs.Spelling.{batches_at, votes_at, votes_of}
use Rattle.eve_views.specs.declared.fault.Code.{Code}
use Rattle.eve_views.specs.declared.fault.Code.TheVariants as code
use Rattle.eve_views.specs.declared.fault.Fault.{Fault}
use Rattle.eve_views.specs.Form.{SomePlace}
use Rattle.eve_votes.specs.Votes.{is_vote_on, IsDecided}

-- two views of the batch are decided as commit
-- It is F71 TwoDecisions.
abbrev pub HasTwoDecisions : Trace → ℕ → Type 0
HasTwoDecisions t n = (view : ℕ) × (other : ℕ) × (token : List ℕ) × (other_token : List ℕ) × (view ≢ other)
    × IsDecided t n view token × IsDecided t n other other_token

-- the verifier has an earlier vote on this batch in this view
-- It is F70 TwoVotes.
abbrev pub IsFurther : List (ℕ × Vote) → ℕ × Vote → Type 0
IsFurther before w = IsTrue (list_any (λ u. is_vote_on w.1.seq w.1.view u.1) before)

-- a fault of votes stands at this offset
abbrev pub StandsInVotes : Code → Trace → ℕ → Type 0
StandsInVotes code.TwoVotes t at = (v : ℕ) × SomePlace (votes_at t v) (λ before w. (w.0 ≡ at) × IsFurther before w)
StandsInVotes code.TwoDecisions t at = SomePlace (batches_at t) (λ _ b. (b.0 ≡ at) × HasTwoDecisions t b.1.0)
StandsInVotes _ t at = ⊥

-- a fault outside the sections, at this offset
abbrev pub outside : Code → ℕ → Fault
outside c at = record { code = c; offset = at; replica = None }

-- what holds where no fault of votes stands: each verifier votes at most once on a batch in a view, and a batch
-- is decided as commit in one view, with one token
pub record AreVotesSound (t : Trace) : Type 0 where
  pub once : (v n view : ℕ) → length (filter (is_vote_on n view) (votes_of t v)) ≤ 1
  pub one_view : (n view other : ℕ) (token other_token : List ℕ) → IsDecided t n view token
      → IsDecided t n other other_token → view ≡ other
  pub one_token : (n view other : ℕ) (token other_token : List ℕ) → IsDecided t n view token
      → IsDecided t n other other_token → token ≡ other_token
