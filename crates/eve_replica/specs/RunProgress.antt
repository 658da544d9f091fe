-- How far a run came that has not ended. docs/DEPLOYMENT.md, "A run".
use Rattle.std.specs.Prelude.{◌≡◌, ℕ, ◌*◌, ◌<◌, List, [], length, All, option_map, slice_get, Option}
use Rattle.std.specs.List.{count_by}
use Rattle.eve_grammar.specs.Trace.{Step, Vote}
use Rattle.eve_attempts.specs.Ledgers.{Ledger}
use Rattle.eve_replica.specs.Decisions.{AreUndecided, is_some_of, open_after}
use Rattle.eve_replica.specs.Run.{IsDecidedBy, has_reached}
use Rattle.eve_replica.specs.Sections.{RunPlan, GoesThrough, reached_in}
use Rattle.eve_replica.specs.Transfers.{AreCommittedByMost, AreTransferredIn}
use Rattle.eve_replica.specs.Windows.{ComesTo, WindowState}

-- The section of a replica so far: its steps are what its ledger went through, which began with the opening balances;
-- they have come, window by window, to some state of a window.
pub record IsSectionSoFar (p : RunPlan) (steps : List Step) : Type 0 where
  pub last : Ledger
  pub through : GoesThrough p steps p.first last
  pub at : WindowState
  pub windows : ComesTo p.first.window (length p.batches) steps at

-- A run by this plan of this number of replicas has reached this number of batches. All holds of its sections, and of
-- the votes that each verifier gave, that holds of those of a trace of a run (`IsTraceOf`), up to there.
pub record HasComeTo (p : RunPlan) (replicas batches : ℕ) (sections : List (List Step)) (votes : List Vote) : Type 0
  where
    pub many : length sections ≡ replicas
    pub each : All (IsSectionSoFar p) sections
    pub reached : length sections < 2 * count_by (has_reached batches) sections
    pub all_reached : p.first.version ≡ 2 → All (λ steps. reached_in steps ≡ batches) sections
    pub committed : AreCommittedByMost batches sections
    pub transferred : AreTransferredIn p sections
    pub undecided : AreUndecided sections
    pub voted : All (λ steps. IsDecidedBy batches steps votes) sections

-- the token of the first attempt that is open after these steps
abbrev pub first_token : List Step → Option (List ℕ)
first_token steps = option_map (λ a. a.token) (slice_get (open_after [] steps) 0)

-- the number of sections that have this token for the next batch
abbrev pub count_first : List ℕ → List (List Step) → ℕ
count_first token sections = count_by (λ steps. is_some_of token (first_token steps)) sections
