-- The first wrong frame of a section, found step by step. A device: what a fault of structure is, and where it
-- stands, is said without it.
use Rattle.std.specs.Prelude.{ℕ, if◌then◌else◌, List, [], ◌∷◌, ◌++◌, Option, Some, None}
use Rattle.eve_grammar.specs.Trace.{Access, Attempt, Commit, Rollback, Transfer, Step, Attempts, Commits, RollsBack}
use Rattle.eve_grammar.specs.Trace.{Transfers, Trace}
use Rattle.eve_grammar.specs.Spelling.{accesses_at}
use Rattle.eve_views.specs.declared.fault.Code.{Code}
use Rattle.eve_views.specs.declared.fault.Code.TheVariants as code
use Rattle.eve_views.specs.declared.fault.Fault.{Fault}
use Rattle.eve_history.specs.declared.wrong.Wrong.{Wrong}
use Rattle.eve_grammar.specs.Accesses.{is_new_access, is_right_place}
use Rattle.eve_history.specs.Section.{SectionState, next, request_count, worker_count, is_right_attempt}
use Rattle.eve_history.specs.Section.{is_right_certificate, is_right_commit, is_right_rollback, is_right_transfer}

-- what is wrong at this offset, or else later
abbrev pub found_or : ℕ → Option Code → Option Wrong → Option Wrong
found_or at (Some c) later = Some (record { offset = at; code = c })
found_or at None later = later

abbrev pub first_wrong_of : Option Wrong → Option Wrong → Option Wrong
first_wrong_of (Some w) later = Some w
first_wrong_of None later = later

-- what is wrong with an access record after those before it, with these numbers of workers and indexes
abbrev pub wrong_access : ℕ → ℕ → List Access → Access → Option Code
wrong_access workers count before x =
    if is_new_access workers count before x then (if is_right_place before x then None else Some code.WorkerOrder) else
    Some code.Access

abbrev pub wrong_accesses : ℕ → ℕ → List Access → List (ℕ × Access) → Option Wrong
wrong_accesses workers count before [] = None
wrong_accesses workers count before (x ∷ xs) = found_or x.0 (wrong_access workers count before x.1)
    (wrong_accesses workers count (before ++ x.1 ∷ []) xs)

abbrev pub wrong_records : Trace → Attempt → List Access → List (ℕ × Access) → Option Wrong
wrong_records t a = wrong_accesses (worker_count t a) (request_count t a)

-- what is wrong with an attempt but for its access records
abbrev pub wrong_attempt : Trace → SectionState → Attempt → Option Code
wrong_attempt t s a =
    if is_right_attempt t s a then (if is_right_certificate t a then None else Some code.Certificate) else Some
    code.Attempt

abbrev pub wrong_commit : SectionState → Commit → Option Code
wrong_commit s c = if is_right_commit s c then None else Some code.Commit

abbrev pub wrong_rollback : Trace → SectionState → Rollback → Option Code
wrong_rollback t s r = if is_right_rollback t s r then None else Some code.Rollback

abbrev pub wrong_transfer : Trace → SectionState → Transfer → Option Code
wrong_transfer t s x = if is_right_transfer t s x then None else Some code.Transfer

abbrev pub wrong_step : Trace → SectionState → ℕ × Step → Option Wrong
wrong_step t s (at, Attempts a) = found_or at (wrong_attempt t s a) (wrong_records t a [] (accesses_at at a))
wrong_step t s (at, Commits c) = found_or at (wrong_commit s c) None
wrong_step t s (at, RollsBack r) = found_or at (wrong_rollback t s r) None
wrong_step t s (at, Transfers x) = found_or at (wrong_transfer t s x) None

-- in these steps, after others that are right
abbrev pub first_wrong : Trace → SectionState → List (ℕ × Step) → Option Wrong
first_wrong t s [] = None
first_wrong t s (step ∷ steps) = first_wrong_of (wrong_step t s step) (first_wrong t (next s step) steps)

-- the fault, in replica e's section
abbrev pub fault_of : ℕ → Wrong → Fault
fault_of e w = record { code = w.code; offset = w.offset; replica = Some e }
