-- What shows a fault of structure. docs/MODEL.md, "Section state, fate".
use Rattle.std.specs.Prelude.{◌≡◌, ◌≢◌, ℕ, ◌+◌, ◌<◌, ◌≤◌, ◌==◌, List, [], ◌∷◌, length}
use Rattle.std.specs.List.{AllByRecursion, count_by}
use Rattle.eve_grammar.specs.Trace.{Access, Attempt, Commit, Rollback, Transfer, Trace}
use Rattle.eve_views.specs.Form.{SomePlace}
use Rattle.eve_history.specs.Section.{Placed, SectionState, request_count, worker_count}
use Rattle.eve_history.specs.Structure.{accesses_of}
use Rattle.eve_evidence.specs.declared.evidence.Numbers.{Numbers}
use Rattle.eve_evidence.specs.declared.evidence.AttemptFault.{AttemptFault}
use Rattle.eve_evidence.specs.declared.evidence.AttemptFault.TheVariants as attempt
use Rattle.eve_evidence.specs.declared.evidence.AccessFault.{AccessFault}
use Rattle.eve_evidence.specs.declared.evidence.AccessFault.TheVariants as access
use Rattle.eve_evidence.specs.declared.evidence.CommitFault.{CommitFault}
use Rattle.eve_evidence.specs.declared.evidence.CommitFault.TheVariants as commit
use Rattle.eve_evidence.specs.declared.evidence.RollbackFault.{RollbackFault}
use Rattle.eve_evidence.specs.declared.evidence.RollbackFault.TheVariants as rollback
use Rattle.eve_evidence.specs.declared.evidence.TransferFault.{TransferFault}
use Rattle.eve_evidence.specs.declared.evidence.TransferFault.TheVariants as transfer

-- this was found, and that was due
abbrev pub numbers : ℕ → ℕ → Numbers
numbers found due = record { found = found; due = due }

-- ---- an attempt

-- the number that an attempt must have: the one behind those that are committed or open
abbrev pub due_number : SectionState → ℕ
due_number s = s.last + 1 + length s.pending

-- the attempt has that number, there is such a batch, and the window has room for it
pub record IsNumbered (t : Trace) (s : SectionState) (a : Attempt) : Type 0 where
  pub due : a.seq ≡ due_number s
  pub there : a.seq ≤ length t.batches
  pub room : a.seq ≤ s.last + t.head.window

-- the first thing that is wrong with an attempt where the section has come to this
abbrev pub IsAttemptFault : Trace → SectionState → Attempt → AttemptFault → Type 0
IsAttemptFault t s a (attempt.Number n) = (n ≡ numbers a.seq (due_number s)) × (a.seq ≢ due_number s)
IsAttemptFault t s a (attempt.PastBatches n) =
    (n ≡ numbers a.seq (length t.batches)) × (a.seq ≡ due_number s) × (length t.batches < a.seq)
IsAttemptFault t s a (attempt.PastWindow n) =
    (n ≡ numbers a.seq (s.last + t.head.window)) × (a.seq ≡ due_number s) × (a.seq ≤ length t.batches)
    × (s.last + t.head.window < a.seq)
IsAttemptFault t s a (attempt.View n) = (n ≡ numbers a.view s.view) × IsNumbered t s a × (a.view ≢ s.view)
IsAttemptFault t s a (attempt.Requests n) =
    (n ≡ numbers (length a.certificate) (request_count t a)) × IsNumbered t s a × (a.view ≡ s.view)
    × (length a.certificate ≢ request_count t a)
IsAttemptFault t s a (attempt.Mode found due) =
    (found ≡ a.serial) × (due ≡ s.rolled_back) × IsNumbered t s a × (a.view ≡ s.view)
    × (length a.certificate ≡ request_count t a) × (a.serial ≢ s.rolled_back)

-- ---- an access record

-- the first thing that is wrong with the worker or the index of an access record of an attempt, behind these records
abbrev pub IsAccessFault : Trace → Attempt → List (ℕ × Access) → Access → AccessFault → Type 0
IsAccessFault t a own x (access.Worker n) = (n ≡ numbers x.worker (worker_count t a)) × (worker_count t a ≤ x.worker)
IsAccessFault t a own x (access.Index n) =
    (n ≡ numbers x.index (request_count t a)) × (x.worker < worker_count t a) × (request_count t a ≤ x.index)
IsAccessFault t a own x (access.Again index first) =
    (index ≡ x.index) × (x.worker < worker_count t a) × (x.index < request_count t a)
    × SomePlace own (λ before y. (y.0 ≡ first) × (y.1.index ≡ x.index)
    × AllByRecursion (λ z. z.1.index ≢ x.index) before)

-- the place that an access record says, and the worker's next
abbrev pub place_numbers : List (ℕ × Access) → Access → Numbers
place_numbers own x = numbers x.place (count_by (λ y. y.worker == x.worker) (accesses_of own))

-- ---- a commit

-- the first thing that is wrong with a commit, where the last committed number and the open attempts are these
abbrev pub IsCommitFault : ℕ → List Placed → Commit → CommitFault → Type 0
IsCommitFault last ps c (commit.Number n) = (n ≡ numbers c.seq (last + 1)) × (c.seq ≢ last + 1)
IsCommitFault last ps c commit.NoneOpen = (c.seq ≡ last + 1) × (ps ≡ [])
IsCommitFault last [] c (commit.View n) = ⊥
IsCommitFault last (p ∷ ps) c (commit.View n) =
    (n ≡ numbers c.view p.attempt.view) × (c.seq ≡ last + 1) × (c.view ≢ p.attempt.view)
IsCommitFault last [] c (commit.Token found due) = ⊥
IsCommitFault last (p ∷ ps) c (commit.Token found due) =
    (found.now ≡ c.token) × (due.now ≡ p.attempt.token) × (c.seq ≡ last + 1) × (c.view ≡ p.attempt.view)
    × (c.token ≢ p.attempt.token)

-- ---- a rollback

-- the first thing that is wrong with a rollback where the section has come to this
abbrev pub IsRollbackFault : Trace → SectionState → Rollback → RollbackFault → Type 0
IsRollbackFault t s r (rollback.To n) = (n ≡ numbers r.to s.last) × (r.to ≢ s.last)
IsRollbackFault t s r (rollback.NothingLeft n) =
    (n ≡ numbers s.last (length t.batches)) × (r.to ≡ s.last) × (length t.batches ≤ s.last)
IsRollbackFault t s r (rollback.View n) =
    (n ≡ numbers r.view (s.view + 1)) × (r.to ≡ s.last) × (s.last < length t.batches) × (r.view ≢ s.view + 1)

-- ---- a state that is transferred

-- the first thing that is wrong with it where the section has come to this
abbrev pub IsTransferFault : Trace → SectionState → Transfer → TransferFault → Type 0
IsTransferFault t s x (transfer.Number n) = (n ≡ numbers x.seq s.last) × (x.seq ≤ s.last)
IsTransferFault t s x (transfer.PastBatches n) =
    (n ≡ numbers x.seq (length t.batches)) × (s.last < x.seq) × (length t.batches < x.seq)
IsTransferFault t s x (transfer.View n) =
    (n ≡ numbers x.view s.view) × (s.last < x.seq) × (x.seq ≤ length t.batches) × (x.view < s.view)
