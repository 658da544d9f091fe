-- Which states are transferred to the replicas of a run. docs/DEPLOYMENT.md, "A run".
use Rattle.std.specs.Prelude.{◌≡◌, ℕ, ◌+◌, ◌*◌, ◌<◌, ◌≤◌, ◌==◌, Bool, false, ◌||◌, IsFalse, ⊤, List, [], ◌∷◌, ◌++◌}
use Rattle.std.specs.Prelude.{length}
use Rattle.std.specs.List.{AllByRecursion, count_by, sum_by}
use Rattle.eve_grammar.specs.Trace.{Commit, Transfer, Step, Attempts, Commits, RollsBack, Transfers}
use Rattle.eve_attempts.specs.Ledgers.{Ledger}
use Rattle.eve_attempts.specs.Transfers.{IsStateOf}
use Rattle.eve_replica.specs.Sections.{RunPlan, GoesThrough}

-- whether a step commits the batch with this number
abbrev pub is_commit_of : ℕ → Step → Bool
is_commit_of n (Attempts a) = false
is_commit_of n (Commits c) = c.seq == n
is_commit_of n (RollsBack r) = false
is_commit_of n (Transfers x) = false

-- whether that batch is committed in a section, by an attempt
abbrev pub commits_batch : ℕ → List Step → Bool
commits_batch n [] = false
commits_batch n (x ∷ steps) = is_commit_of n x || commits_batch n steps

-- The lowest-numbered replica that commits the state's batch, in the state's view: the state is what its ledger then
-- has committed.
pub record IsTransferredFrom (p : RunPlan) (sections : List (List Step)) (x : Transfer) : Type 0 where
  pub below : List (List Step)
  pub above : List (List Step)
  pub prefix : List Step
  pub commit : Commit
  pub rest : List Step
  pub source : sections ≡ below ++ (prefix ++ Commits commit ∷ rest) ∷ above
  pub lowest : AllByRecursion (λ steps. IsFalse (commits_batch x.seq steps)) below
  pub seq : commit.seq ≡ x.seq
  pub view : commit.view ≡ x.view
  pub ledger : Ledger
  pub through : GoesThrough p (prefix ++ Commits commit ∷ []) p.first ledger
  pub rows : IsStateOf ledger x.rows

-- where a step has a state transferred, it is such a one
abbrev pub IsRightlyTransferred : RunPlan → List (List Step) → Step → Type 0
IsRightlyTransferred p sections (Attempts a) = ⊤
IsRightlyTransferred p sections (Commits c) = ⊤
IsRightlyTransferred p sections (RollsBack r) = ⊤
IsRightlyTransferred p sections (Transfers x) = IsTransferredFrom p sections x

-- each state that is transferred in these sections
abbrev pub AreTransferredIn : RunPlan → List (List Step) → Type 0
AreTransferredIn p sections = AllByRecursion (AllByRecursion (IsRightlyTransferred p sections)) sections

-- each of the first batches is committed by more than half of all replicas, by attempts
abbrev pub AreCommittedByMost : ℕ → List (List Step) → Type 0
AreCommittedByMost batches sections =
    (n : ℕ) → 0 < n → n ≤ batches → length sections < 2 * count_by (commits_batch n) sections

-- the number of states that are transferred in a section, and in all of them
abbrev pub states_along : List Step → ℕ
states_along [] = 0
states_along (Attempts a ∷ steps) = states_along steps
states_along (Commits c ∷ steps) = states_along steps
states_along (RollsBack r ∷ steps) = states_along steps
states_along (Transfers x ∷ steps) = 1 + states_along steps

abbrev pub states_in : List (List Step) → ℕ
states_in sections = sum_by states_along sections
