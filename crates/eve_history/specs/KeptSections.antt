-- What is kept of a section's steps that have come.
use Rattle.std.specs.Prelude.{◌≡◌, ℕ, zero, suc, ◌+◌, ◌-◌, ◌<◌, ◌≤◌, Bool, true, IsTrue, List, [], ◌∷◌, ◌++◌, map}
use Rattle.std.specs.Prelude.{length, take, drop, replicate, slice_index_or, false, ⊤}
use Rattle.std.specs.List.{AllByRecursion, list_all}
use Rattle.eve_grammar.specs.Trace.{Access, Attempt, Rollback, Transfer, Step, Attempts, Trace, head_of}
use Rattle.eve_grammar.specs.Frames.{without_accesses}
use Rattle.eve_grammar.specs.Spelling.{steps_at, accesses_at}
use Rattle.eve_grammar.specs.Limits.{is_step, row_count}
use Rattle.eve_grammar.specs.FrameOrder.{Spells}
use Rattle.eve_frames.specs.Views.{attempt_in, access_in, rollback_in, transfer_in}
use Rattle.eve_history.specs.declared.fate.Fate.{Fate}
use Rattle.eve_history.specs.declared.fate.Fate.TheVariants.{Open}
use Rattle.eve_history.specs.declared.how_reached.HowReached as told
use Rattle.eve_history.specs.declared.how_reached.HowReached.TheVariants as how_reached
use Rattle.eve_history.specs.declared.structure.Attempted.{Attempted}
use Rattle.eve_history.specs.declared.structure.Notes.{Notes}
use Rattle.eve_history.specs.FrameOffsets.{frame_in, IsAttemptAt, IsAccessAt, IsRollbackAt, IsTransferAt}
use Rattle.eve_history.specs.Section.{SectionState, start, state_after, are_right, transfers_by}
use Rattle.eve_history.specs.Fates.{fate_in, fates_from}
use Rattle.eve_history.specs.SectionHistory.{ExecutedAttempt, executed_attempt, placed_at, attempts_among}
use Rattle.eve_history.specs.SectionHistory.{rollbacks_among, transferred_from, ToldReached, ReachedBy, ReachedFrom}
use Rattle.eve_history.specs.SectionHistory.{NotReached}
use Rattle.eve_history.specs.SectionHistory.{told_reached_from, SectionHistory}

-- ---- what is kept

-- an attempt, how many states were transferred before it, and where its access records begin among those of the section
pub record KeptAttempt : Type 0 where
  pub offset : ℕ
  pub attempt : Attempt
  pub transferred : ℕ
  pub from : ℕ

-- Attempts stand in the order of their frames. The first of them are settled, and have a fate. Numbers were reached by
-- attempts and by states at these places.
pub record KeptSection : Type 0 where
  pub view : ℕ
  pub last : ℕ
  pub rolled_back : Bool
  pub attempts : List KeptAttempt
  pub fates : List Fate
  pub ways_reached : List told.HowReached
  pub records : List (ℕ × Access)
  pub rollbacks : List (ℕ × Rollback)
  pub transfers : List (ℕ × Transfer)

-- the attempt whose frame begins at this byte
abbrev pub kept_attempt : List ℕ → Attempted → KeptAttempt
kept_attempt bytes a =
    record { offset = a.at; attempt = attempt_in (frame_in bytes a.at); transferred = a.transferred; from = a.from }

-- the access record whose frame begins at this byte
abbrev pub seen : List ℕ → ℕ → ℕ × Access
seen bytes at = (at, access_in (frame_in bytes at))

-- the rollback whose frame begins at this byte
abbrev pub rolled : List ℕ → ℕ → ℕ × Rollback
rolled bytes at = (at, rollback_in (frame_in bytes at))

-- the transfer whose frame begins at this byte
abbrev pub was_transferred : List ℕ → ℕ → ℕ × Transfer
was_transferred bytes at = (at, transfer_in (frame_in bytes at))

abbrev pub kept_section : Notes → KeptSection
kept_section n = record {
  view = n.view;
  last = n.last;
  rolled_back = n.rolled_back;
  attempts = map (kept_attempt n.bytes.now) n.attempts.items;
  fates = n.fates.items;
  ways_reached = n.ways_reached.items;
  records = map (seen n.bytes.now) n.records.items;
  rollbacks = map (rolled n.bytes.now) n.rollbacks.items;
  transfers = map (was_transferred n.bytes.now) n.transfers.items;
}

-- before the first step, where these access records are kept ahead
abbrev pub kept_at_first : List (ℕ × Access) → KeptSection
kept_at_first records = record {
  view = 0;
  last = 0;
  rolled_back = false;
  attempts = [];
  fates = [];
  ways_reached = [];
  records = records;
  rollbacks = [];
  transfers = [];
}

-- how many attempts are open
abbrev pub open_count : KeptSection → ℕ
open_count k = length k.attempts - length k.fates

-- ---- what it tells

abbrev pub kept_executed_attempt : List (ℕ × Access) → KeptAttempt → ExecutedAttempt
kept_executed_attempt records a = record {
  offset = a.offset;
  attempt = a.attempt;
  ordered = take (length a.attempt.certificate)
      (drop a.from records);
}

abbrev pub executed_attempts : KeptSection → List ExecutedAttempt
executed_attempts k = map (kept_executed_attempt k.records) k.attempts

abbrev pub no_executed_attempt : ExecutedAttempt
no_executed_attempt = record {
  offset = 0;
  attempt = record { seq = 0; view = 0; serial = false; certificate = []; replies = []; token = []; accesses = [] };
  ordered = [];
}

-- the attempt at this place
abbrev pub executed_attempt_at : List ExecutedAttempt → ℕ → ExecutedAttempt
executed_attempt_at rs place = slice_index_or rs place no_executed_attempt

-- how a number was reached, where these are the attempts
abbrev pub told_reached_in : List ExecutedAttempt → told.HowReached → ToldReached
told_reached_in rs (how_reached.Attempt place) = ReachedBy (executed_attempt_at rs place)
told_reached_in rs (how_reached.Transfer i) = ReachedFrom i
told_reached_in rs how_reached.Skipped = NotReached

-- the attempt or the state by which a number was reached is one of those that there are
abbrev pub IsWayAmong : ℕ → ℕ → told.HowReached → Type 0
IsWayAmong attempts transfers (how_reached.Attempt place) = place < attempts
IsWayAmong attempts transfers (how_reached.Transfer i) = i < transfers
IsWayAmong attempts transfers how_reached.Skipped = ⊤

abbrev pub section_history_of : ℕ → KeptSection → SectionHistory
section_history_of e k = record {
  replica = e;
  right = true;
  committed = k.last;
  attempts = executed_attempts k;
  fates = k.fates ++ replicate (open_count k) Open;
  transferred = map (λ a. a.transferred) k.attempts;
  ways_reached = map (told_reached_in (executed_attempts k)) k.ways_reached;
  rollbacks = k.rollbacks;
  transfers = k.transfers;
}

-- The records of each attempt are there, and no more fates than attempts. It is known of each number up to the last how
-- it was reached, and the attempts and states that reached one are there.
pub record IsKept (k : KeptSection) : Type 0 where
  pub within : AllByRecursion (λ a. a.from + length a.attempt.certificate ≤ length k.records) k.attempts
  pub fewer : length k.fates ≤ length k.attempts
  pub count : length k.ways_reached ≡ k.last
  pub there : AllByRecursion (IsWayAmong (length k.attempts) (length k.transfers)) k.ways_reached

-- ---- while steps come

-- where the section has come to, in numbers
pub record StandsAt (s : SectionState) (k : KeptSection) : Type 0 where
  pub view : k.view ≡ s.view
  pub last : k.last ≡ s.last
  pub rolled_back : k.rolled_back ≡ s.rolled_back
  pub pending : map (λ p. without_accesses p.attempt) s.pending
      ≡ drop (length k.fates) (map (λ a. a.attempt) k.attempts)
  pub fewer : length k.fates ≤ length k.attempts

-- Of these attempts the ones after the settled ones are open, and in these ways the numbers were reached.
pub record AreSettled (s : SectionState) (rs : List ExecutedAttempt) (settled : ℕ)
    (ways_reached : List told.HowReached) : Type 0 where
  pub pending : map (λ p. executed_attempt (placed_at p)) s.pending ≡ drop settled rs
  pub told_reached : map (told_reached_in rs) ways_reached ≡ told_reached_from 0 s.ways_reached

-- what becomes of this many open attempts in the steps, that many being open before them
abbrev pub open_fates : List (ℕ × Step) → ℕ → ℕ → List Fate
open_fates steps before zero = []
open_fates steps before (suc n) = fate_in steps before ∷ open_fates steps (suc before) n

-- these steps of replica e's section are still to come, all before them were right, and this is kept of those
pub record HasCome (t : Trace) (e : ℕ) (rest : List (ℕ × Step)) (k : KeptSection) : Type 0 where
  pub prefix : List (ℕ × Step)
  pub split : steps_at t e ≡ prefix ++ rest
  pub right : are_right t start prefix ≡ true
  pub stands : StandsAt (state_after start prefix) k
  pub attempts : executed_attempts k ≡ map executed_attempt (attempts_among prefix)
  pub settled : AreSettled (state_after start prefix) (executed_attempts k) (length k.fates) k.ways_reached
  pub is_kept : IsKept k
  pub fates : fates_from 0 (steps_at t e)
      ≡ k.fates ++ (open_fates rest 0 (open_count k) ++ fates_from (open_count k) rest)
  pub transferred : transferred_from 0 (steps_at t e)
      ≡ map (λ a. a.transferred) k.attempts ++ transferred_from (length k.transfers) rest
  pub rollbacks : k.rollbacks ≡ rollbacks_among prefix
  pub transfers : k.transfers ≡ transfers_by (state_after start prefix).ways_reached
  pub fit : IsTrue (list_all (λ x. is_step (row_count (head_of t)) x.1) rest)

-- an attempt comes next, and this is what its frames say
pub record ComesNext (t : Trace) (e : ℕ) (rest : List (ℕ × Step)) (b : Attempt) (k : KeptSection) (at : ℕ)
    (decoded : Attempt)
    (records : List (ℕ × Access)) : Type 0 where
  pub come : HasCome t e ((at, Attempts b) ∷ rest) k
  pub attempt : decoded ≡ without_accesses b
  pub accesses : records ≡ accesses_at at b

-- what is kept of a frame is the byte at which it begins
pub record AreFramed (n : Notes) : Type 0 where
  pub attempts : AllByRecursion (λ a. IsAttemptAt n.bytes.now a.at) n.attempts.items
  pub records : AllByRecursion (IsAccessAt n.bytes.now) n.records.items
  pub rollbacks : AllByRecursion (IsRollbackAt n.bytes.now) n.rollbacks.items
  pub transfers : AllByRecursion (IsTransferAt n.bytes.now) n.transfers.items

-- the bytes are the trace, and the frames that are kept stand in them
pub record AreNotesOf (t : Trace) (n : Notes) : Type 0 where
  pub spelled : Spells n.bytes.now t
  pub framed : AreFramed n

-- what is kept of a whole section
pub record IsWholeSection (n : Notes) : Type 0 where
  pub kept : IsKept (kept_section n)
  pub framed : AreFramed n
