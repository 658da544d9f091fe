-- What a replica's section tells: its attempts, what became of each, and in which order each ran.
-- docs/MODEL.md, "Section state, fate" and "Certificate order, keeps the groups".
use Rattle.std.specs.Prelude.{◌≡◌, ℕ, zero, suc, ◌-◌, ◌<◌, ◌≤◌, ◌==◌, IsTrue, if◌then◌else◌, List, [], ◌∷◌, map}
use Rattle.std.specs.Prelude.{Option, None, Some, length, slice_get, slice_index_or, Bool, true, false}
use Rattle.eve_grammar.specs.Trace.{Asked, Access, Attempt, Rollback, Transfer, Step, Attempts, Commits, RollsBack}
use Rattle.eve_grammar.specs.Trace.{Transfers, Trace, no_request}
use Rattle.eve_grammar.specs.Frames.{without_accesses, sections_of}
use Rattle.eve_grammar.specs.Spelling.{accesses_at, steps_at}
use Rattle.eve_history.specs.declared.fate.Fate.{Fate}
use Rattle.eve_history.specs.declared.fate.Fate.TheVariants.{Committed, Discarded, Open}
use Rattle.eve_history.specs.declared.how_reached.HowReached as told
use Rattle.eve_history.specs.declared.how_reached.HowReached.TheVariants as how_reached
use Rattle.eve_history.specs.Section.{Placed, HowReached, ByAttempt, ByTransfer, Skipped, SectionState, start}
use Rattle.eve_history.specs.Section.{state_after, batch_at, are_right, transfers_by, IsByAttempt}
use Rattle.eve_history.specs.Fates.{fates_from}

-- the attempts among the steps, with the offsets of their frames
abbrev pub attempts_among : List (ℕ × Step) → List (ℕ × Attempt)
attempts_among [] = []
attempts_among ((at, Attempts a) ∷ steps) = (at, a) ∷ attempts_among steps
attempts_among ((at, Commits c) ∷ steps) = attempts_among steps
attempts_among ((at, RollsBack r) ∷ steps) = attempts_among steps
attempts_among ((at, Transfers x) ∷ steps) = attempts_among steps

-- for each of them, how many states were transferred before it, where this many were before the first step
abbrev pub transferred_from : ℕ → List (ℕ × Step) → List ℕ
transferred_from transferred [] = []
transferred_from transferred ((at, Attempts a) ∷ steps) = transferred ∷ transferred_from transferred steps
transferred_from transferred ((at, Commits c) ∷ steps) = transferred_from transferred steps
transferred_from transferred ((at, RollsBack r) ∷ steps) = transferred_from transferred steps
transferred_from transferred ((at, Transfers x) ∷ steps) = transferred_from (suc transferred) steps

-- the rollbacks among the steps
abbrev pub rollbacks_among : List (ℕ × Step) → List (ℕ × Rollback)
rollbacks_among [] = []
rollbacks_among ((at, Attempts a) ∷ steps) = rollbacks_among steps
rollbacks_among ((at, Commits c) ∷ steps) = rollbacks_among steps
rollbacks_among ((at, RollsBack r) ∷ steps) = (at, r) ∷ rollbacks_among steps
rollbacks_among ((at, Transfers x) ∷ steps) = rollbacks_among steps

abbrev pub no_access : ℕ × Access
no_access = (0, record { worker = 0; place = 0; index = 0; entries = [] })

-- the access record of the index
abbrev pub access_with : List (ℕ × Access) → ℕ → ℕ × Access
access_with [] index = no_access
access_with (x ∷ xs) index = if x.1.index == index then x else access_with xs index

-- the access records of an attempt in its certificate's order
abbrev pub ordered : ℕ → Attempt → List (ℕ × Access)
ordered at a = map (access_with (accesses_at at a)) a.certificate

-- an attempt as its own frame says it, with its access records in its certificate's order
pub record ExecutedAttempt : Type 0 where
  pub offset : ℕ
  pub attempt : Attempt
  pub ordered : List (ℕ × Access)

abbrev pub executed_attempt : ℕ × Attempt → ExecutedAttempt
executed_attempt (at, a) = record { offset = at; attempt = without_accesses a; ordered = ordered at a }

-- an attempt with its frame's offset
abbrev pub placed_at : Placed → ℕ × Attempt
placed_at p = (p.offset, p.attempt)

-- how a number was reached, as a section tells it
pub data ToldReached : Type 0 where
  ReachedBy : ExecutedAttempt → ToldReached  -- by an attempt
  ReachedFrom : ℕ → ToldReached  -- by a state that was transferred: its place among those, from 0
  NotReached : ToldReached  -- it was skipped

-- the same of each number, where this many states were transferred before
abbrev pub told_reached_from : ℕ → List HowReached → List ToldReached
told_reached_from transferred [] = []
told_reached_from transferred (ByAttempt p ∷ ways_reached) = ReachedBy (executed_attempt (placed_at p))
    ∷ told_reached_from transferred ways_reached
told_reached_from transferred (ByTransfer at x ∷ ways_reached) = ReachedFrom transferred
    ∷ told_reached_from (suc transferred) ways_reached
told_reached_from transferred (Skipped ∷ ways_reached) = NotReached ∷ told_reached_from transferred ways_reached

abbrev pub is_by_attempt : ToldReached → Bool
is_by_attempt (ReachedBy r) = true
is_by_attempt (ReachedFrom i) = false
is_by_attempt NotReached = false

-- Whose section it is, and whether each of its steps is right; the last number reached. Its attempts in the order of
-- their frames, what became of each, and how many states were transferred before it. How each number from 1 on was
-- reached. Its rollbacks, and the states that were transferred, with the offsets of their frames.
pub record SectionHistory : Type 0 where
  pub replica : ℕ
  pub right : Bool
  pub committed : ℕ
  pub attempts : List ExecutedAttempt
  pub fates : List Fate
  pub transferred : List ℕ
  pub ways_reached : List ToldReached
  pub rollbacks : List (ℕ × Rollback)
  pub transfers : List (ℕ × Transfer)

-- how the section reached number n, of the numbers from 1 on
abbrev pub told_reached_at : SectionHistory → ℕ → ToldReached
told_reached_at h n = slice_index_or h.ways_reached (n - 1) NotReached

-- what a call says of a number is what is told of it: the attempt or the state at this place, or that it was skipped
abbrev pub IsToldOf : SectionHistory → told.HowReached → ToldReached → Type 0
IsToldOf h (how_reached.Attempt i) told_reached =
    (r : ExecutedAttempt) × (told_reached ≡ ReachedBy r) × (slice_get h.attempts i ≡ Some r)
IsToldOf h (how_reached.Transfer i) told_reached = (told_reached ≡ ReachedFrom i) × (i < length h.transfers)
IsToldOf h how_reached.Skipped told_reached = told_reached ≡ NotReached

abbrev pub section_history_by : Trace → ℕ → List (ℕ × Step) → SectionHistory
section_history_by t e steps = record {
  replica = e;
  right = are_right t start steps;
  committed = (state_after start steps).last;
  attempts = map executed_attempt (attempts_among steps);
  fates = fates_from 0 steps;
  transferred = transferred_from 0 steps;
  ways_reached = told_reached_from 0 (state_after start steps).ways_reached;
  rollbacks = rollbacks_among steps;
  transfers = transfers_by (state_after start steps).ways_reached;
}

-- what replica e's section tells
unfoldable pub section_history : Trace → ℕ → SectionHistory
section_history t e = section_history_by t e (steps_at t e)

-- what each replica's section tells, in the order of the replicas
unfoldable pub section_histories : Trace → List SectionHistory
section_histories t = map (λ s. section_history t s.0) (sections_of t)

-- ---- orders

-- the customers' names, in order
abbrev pub names_of : Trace → List (List ℕ)
names_of t = map (λ c. c.name) t.customers

-- where replica e's section ends
unfoldable pub history : Trace → ℕ → SectionState
history t e = state_after start (steps_at t e)

-- each step of replica e's section is right
abbrev pub IsRightSection : Trace → ℕ → Type 0
IsRightSection t e = IsTrue (are_right t start (steps_at t e))

-- how replica e reached number n, of the numbers from 1 on
abbrev pub how_reached_at : Trace → ℕ → ℕ → Option HowReached
how_reached_at t e zero = None
how_reached_at t e (suc n) = slice_get (history t e).ways_reached n

abbrev pub attempt_by : Option HowReached → Option Placed
attempt_by (Some (ByAttempt p)) = Some p
attempt_by (Some (ByTransfer at x)) = None
attempt_by (Some Skipped) = None
attempt_by None = None

-- the attempt by which replica e committed batch n, where it reached the number by one
abbrev pub committed_at : Trace → ℕ → ℕ → Option Placed
committed_at t e n = attempt_by (how_reached_at t e n)

-- it was reached, by an attempt or by a transfer
abbrev pub was_reached : Option HowReached → Bool
was_reached (Some (ByAttempt p)) = true
was_reached (Some (ByTransfer at x)) = true
was_reached (Some Skipped) = false
was_reached None = false

-- number n is 0, or replica e reached it and didn't skip it
abbrev pub is_reached : Trace → ℕ → ℕ → Bool
is_reached t e zero = true
is_reached t e (suc n) = was_reached (how_reached_at t e (suc n))

-- of the numbers up to n replica e skipped none, and reached none by a state that was transferred to it
abbrev pub ByAttemptsTo : Trace → ℕ → ℕ → Type 0
ByAttemptsTo t e n = (m : ℕ) (l : HowReached) → m ≤ n → how_reached_at t e m ≡ Some l → IsByAttempt l

-- the request with this index of the attempt's batch
abbrev pub asked_in : Trace → Attempt → ℕ → Asked
asked_in t a index = slice_index_or (batch_at t a.seq).requests index no_request

-- ---- attempts by their fates

abbrev pub is_committed : Fate → Bool
is_committed Committed = true
is_committed Discarded = false
is_committed Open = false

abbrev pub is_discarded : Fate → Bool
is_discarded Committed = false
is_discarded Discarded = true
is_discarded Open = false

-- those of a list whose fate passes
abbrev pub picked : (Fate → Bool) → List (ℕ × Attempt) → List Fate → List (ℕ × Attempt)
picked test [] fates = []
picked test (x ∷ xs) [] = []
picked test (x ∷ xs) (fate ∷ fates) = if test fate then x ∷ picked test xs fates else picked test xs fates
