-- What the section of a replica says, step by step, of the replica's ledger of its rows. docs/DEPLOYMENT.md, "A run".
use Rattle.std.specs.Prelude.{◌≡◌, ℕ, ◌+◌, ◌-◌, ◌<◌, Bool, true, false, List, [], ◌∷◌, length, slice_get, Some}
use Rattle.eve_stamps.specs.Applied.{Applied}
use Rattle.eve_grammar.specs.Trace.{Batch, Attempt, Rollback, Transfer, Step, Attempts, Commits, RollsBack, Transfers}
use Rattle.eve_grammar.specs.Trace.{Vote, ForCommit, ForRollback}
use Rattle.eve_attempts.specs.Ledgers.{Ledger}
use Rattle.eve_attempts.specs.ClosedAttempts.{touched_in_batch, Closes}
use Rattle.eve_attempts.specs.CommitsAndRollbacks as ledgers
use Rattle.eve_attempts.specs.Transfers as state
use Rattle.eve_floor.specs.Recording.{AreNotedOf}
use Rattle.eve_replica.specs.Replicas.{attempt_head_of}

-- What the replicas of a run have in common: the customers' names, the batches, and the ledger that each begins with.
pub record RunPlan : Type 0 where
  pub names : List (List ℕ)
  pub batches : List Batch
  pub first : Ledger

-- the place among all batches, counted from 0, of the one that is due next
abbrev pub place_due : Ledger → ℕ
place_due s = s.committed + length s.opened

-- The ledger has room for one more attempt; some records that workers noted of the batch that is due were closed to an
-- attempt of it, in the view and in the mode that are due.
pub record AttemptsNext (p : RunPlan) (old new : Ledger) (a : Attempt) : Type 0 where
  pub room : length old.opened < old.window
  pub batch : Batch
  pub due : slice_get p.batches (place_due old) ≡ Some batch
  pub records : List Applied
  pub noted : AreNotedOf p.names batch records
  pub closed : Closes (attempt_head_of old old.view old.is_next_serial) old new batch (touched_in_batch p.names batch)
      records
      a

-- A batch is left, and the ledger rolls back. In version 1 an attempt is open, so that one is discarded at least.
pub record RollsBackNext (p : RunPlan) (old new : Ledger) (r : Rollback) : Type 0 where
  pub left : old.committed < length p.batches
  pub discards : old.version ≡ 1 → 0 < length old.opened
  pub rolled_back : ledgers.RollsBack old new r

-- The ledger is of version 2, and the state of the next batch is transferred to it, in its own view.
pub record TransfersNext (p : RunPlan) (old new : Ledger) (x : Transfer) : Type 0 where
  pub version : old.version ≡ 2
  pub left : old.committed < length p.batches
  pub next : x.seq ≡ old.committed + 1
  pub view : x.view ≡ old.view
  pub transferred : state.Transfers x old new

-- what the step of a section makes of the ledger
abbrev pub MakesOf : RunPlan → Step → Ledger → Ledger → Type 0
MakesOf p (Attempts a) old new = AttemptsNext p old new a
MakesOf p (Commits c) old new = ledgers.Commits old new c
MakesOf p (RollsBack r) old new = RollsBackNext p old new r
MakesOf p (Transfers x) old new = TransfersNext p old new x

-- the steps of a section make this ledger of that one
abbrev pub GoesThrough : RunPlan → List Step → Ledger → Ledger → Type 0
GoesThrough p [] old new = old ≡ new
GoesThrough p (x ∷ steps) old new = (next : Ledger) × MakesOf p x old next × GoesThrough p steps next new

-- the votes with which all verifiers decided on a batch in a view
abbrev pub commit_vote : (seq view : ℕ) → List ℕ → Vote
commit_vote seq view token = record { seq = seq; view = view; choice = ForCommit token }

abbrev pub rollback_vote : (seq view : ℕ) → Vote
rollback_vote seq view = record { seq = seq; view = view; choice = ForRollback }

-- These are the votes on which a replica took its steps, one after another. A commit is of its batch, view and token. A
-- rollback is of the batch after the one that it goes back to, in the view before its own. A state is transferred where
-- its batch is committed in its view, with whatever token.
abbrev pub AreVotesOf : List Step → List Vote → Type 0
AreVotesOf [] votes = votes ≡ []
AreVotesOf (Attempts a ∷ steps) votes = AreVotesOf steps votes
AreVotesOf (Commits c ∷ steps) votes =
    (rest : List Vote) × (votes ≡ commit_vote c.seq c.view c.token ∷ rest) × AreVotesOf steps rest
AreVotesOf (RollsBack r ∷ steps) votes =
    (rest : List Vote) × (votes ≡ rollback_vote (r.to + 1) (r.view - 1) ∷ rest) × AreVotesOf steps rest
AreVotesOf (Transfers x ∷ steps) votes =
    (token : List ℕ) × (rest : List Vote) × (votes ≡ commit_vote x.seq x.view token ∷ rest) × AreVotesOf steps rest

-- whether a step reaches a batch: by a commit, or by a state that is transferred
abbrev pub reaches_batch : Step → Bool
reaches_batch (Attempts a) = false
reaches_batch (Commits c) = true
reaches_batch (RollsBack r) = false
reaches_batch (Transfers x) = true

-- the number of batches that a section reaches
abbrev pub reached_in : List Step → ℕ
reached_in [] = 0
reached_in (Attempts a ∷ steps) = reached_in steps
reached_in (Commits c ∷ steps) = 1 + reached_in steps
reached_in (RollsBack r ∷ steps) = reached_in steps
reached_in (Transfers x ∷ steps) = 1 + reached_in steps
