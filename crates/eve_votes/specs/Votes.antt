-- What the verifiers decided. docs/MODEL.md, "Decided, rolled back".
use Rattle.std.specs.Prelude.{ℕ, ◌≤◌, ◌==◌, Bool, false, ◌&&◌, List, [], filter, count_by, ◌∷◌}
use Rattle.std.specs.Cmp.Lexicographic.{pointwise}
use Rattle.eve_grammar.specs.Trace.{Choice, ForRollback, ForCommit, Vote, Trace}
use Rattle.eve_grammar.specs.Spelling.{choice_text}

-- they are spelled the same
abbrev pub same_choice : Choice → Choice → Bool
same_choice a b = pointwise ◌==◌ (choice_text a) (choice_text b)

-- a vote on the batch in that view
abbrev pub is_vote_on : ℕ → ℕ → Vote → Bool
is_vote_on n view v = (v.seq == n) && (v.view == view)

-- there is one vote, and it is for this
abbrev pub is_only : Choice → List Vote → Bool
is_only choice (v ∷ []) = same_choice v.choice choice
is_only choice _ = false

-- how many verifiers have exactly one vote on the batch in that view, and it is for this
abbrev pub backers : Trace → ℕ → ℕ → Choice → ℕ
backers t n view choice = count_by (λ votes. is_only choice (filter (is_vote_on n view) votes)) t.verifiers

-- a quorum of verifiers is for committing the batch in that view, with this token
-- Where it isn't so, F72 NoMajority stands; where it is in two views, F71 TwoDecisions.
abbrev pub IsDecided : Trace → ℕ → ℕ → List ℕ → Type 0
IsDecided t n view token = t.head.quorum ≤ backers t n view (ForCommit token)

-- a quorum of verifiers is for a rollback of the batch in that view
-- Where it isn't so, F73 RollbackNoMajority stands.
abbrev pub IsRolledBack : Trace → ℕ → ℕ → Type 0
IsRolledBack t n view = t.head.quorum ≤ backers t n view ForRollback
