-- Why a run rolls back, and why a replica stops. docs/DEPLOYMENT.md, "A run".
use Rattle.std.specs.Prelude.{◌≡◌, ◌≢◌, ℕ, ◌+◌, ◌*◌, ◌≤◌, ◌==◌, Bool, false, if◌then◌else◌, List, [], ◌∷◌, ◌++◌}
use Rattle.std.specs.Prelude.{length, drop, slice_get, Option, Some, None}
use Rattle.std.specs.Str.{bytes_eq}
use Rattle.std.specs.List.{count_by}
use Rattle.eve_grammar.specs.Trace.{Attempt, Step, Attempts, Commits, RollsBack, Transfers, Vote, ForCommit}
use Rattle.eve_replica.specs.Sections.{reached_in}

-- ---- why a run rolls back

-- whether this is that token
abbrev pub is_some_of : List ℕ → Option (List ℕ) → Bool
is_some_of token None = false
is_some_of token (Some own) = bytes_eq own token

-- The token of the first attempt that the rollback to this view discards, along steps before which the attempts with
-- these tokens are open; None where no step rolls back to it.
abbrev pub token_given_up : ℕ → List (List ℕ) → List Step → Option (List ℕ)
token_given_up view opened [] = None
token_given_up view opened (Attempts a ∷ steps) = token_given_up view (opened ++ a.token ∷ []) steps
token_given_up view opened (Commits c ∷ steps) = token_given_up view (drop 1 opened) steps
token_given_up view opened (RollsBack r ∷ steps) =
    if r.view == view then slice_get opened 0 else token_given_up view [] steps
token_given_up view opened (Transfers x ∷ steps) = token_given_up view [] steps

-- the number of replicas that give up this token by their rollback to this view
abbrev pub count_given_up : ℕ → List ℕ → List (List Step) → ℕ
count_given_up view token sections = count_by (λ steps. is_some_of token (token_given_up view [] steps)) sections

-- What is rolled back wasn't decided: by their rollbacks to one view no more than half of all replicas give up one and
-- the same token.
abbrev pub AreUndecided : List (List Step) → Type 0
AreUndecided sections = (view : ℕ) (token : List ℕ) → 2 * count_given_up view token sections ≤ length sections

-- ---- why a replica stops

-- the attempts that are open after these steps, before which these are
abbrev pub open_after : List Attempt → List Step → List Attempt
open_after opened [] = opened
open_after opened (Attempts a ∷ steps) = open_after (opened ++ a ∷ []) steps
open_after opened (Commits c ∷ steps) = open_after (drop 1 opened) steps
open_after opened (RollsBack r ∷ steps) = open_after [] steps
open_after opened (Transfers x ∷ steps) = open_after [] steps

-- In version 1 a replica stopped after these steps: the next of the votes is for the commit of its first open attempt's
-- batch, in that attempt's view, with another token.
pub record StopsBefore (steps : List Step) (later : List Vote) : Type 0 where
  pub own : Attempt
  pub first : slice_get (open_after [] steps) 0 ≡ Some own
  pub token : List ℕ
  pub rest : List Vote
  pub next : later ≡ record { seq = reached_in steps + 1; view = own.view; choice = ForCommit token } ∷ rest
  pub other : own.token ≢ token
