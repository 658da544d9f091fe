-- A replica's section, step by step: where it has come to, and which step is right there.
-- docs/MODEL.md, "Section state, fate".
use Rattle.std.specs.Prelude.{ℕ, ◌+◌, ◌-◌, nat_lt, nat_le, ◌==◌, Bool, true, false, ◌&&◌, if◌then◌else◌, List, [], ◌∷◌}
use Rattle.std.specs.Prelude.{◌++◌, map, length, replicate, slice_index_or, fold, not, ⊤}
use Rattle.std.specs.Bool.{beq}
use Rattle.std.specs.Cmp.Lexicographic.{pointwise}
use Rattle.std.specs.List.{list_any, flat_map}
use Rattle.eve_smallbank.specs.declared.versioned.Versioned.{Versioned}
use Rattle.eve_grammar.specs.Trace.{Batch, Access, Attempt, Commit, Rollback, Transfer}
use Rattle.eve_grammar.specs.Trace.{Step, Attempts, Commits, RollsBack, Transfers, Trace}
use Rattle.eve_grammar.specs.Certificate.{is_certificate}
use Rattle.eve_grammar.specs.Accesses.{is_right_place}

-- what happened to the rows: an attempt ran, or a state was transferred, row by row
pub data Came : Type 0 where
  Ran : Attempt → Came
  Transferred : List Versioned → Came

-- an attempt with its frame's offset, and with its path: what happened to the rows before it, but for the attempts
-- that were discarded before it
pub record Placed : Type 0 where
  pub offset : ℕ
  pub attempt : Attempt
  pub path : List Came

-- how a number was reached
pub data HowReached : Type 0 where
  ByAttempt : Placed → HowReached  -- the attempt was committed
  ByTransfer : ℕ → Transfer → HowReached  -- a state of this number was transferred; with its frame's offset
  Skipped : HowReached  -- not at all: a state of a later number was transferred

-- Where a section has come to. Open and discarded attempts stand in the order of their frames.
pub record SectionState : Type 0 where
  pub view : ℕ
  pub last : ℕ  -- the last number reached
  pub ways_reached : List HowReached  -- how each number was reached, from 1 to the last
  pub pending : List Placed  -- the open attempts
  pub discarded : List Placed
  pub rolled_back : Bool  -- no attempt came since a rollback

abbrev pub start : SectionState
start = record { view = 0; last = 0; ways_reached = []; pending = []; discarded = []; rolled_back = false }

-- ---- how numbers were reached

-- the number was reached by an attempt
abbrev pub IsByAttempt : HowReached → Type 0
IsByAttempt (ByAttempt p) = ⊤
IsByAttempt (ByTransfer at x) = ⊥
IsByAttempt Skipped = ⊥

-- what happened to the rows where a number was reached so
abbrev pub came_by : HowReached → List Came
came_by (ByAttempt p) = Ran p.attempt ∷ []
came_by (ByTransfer at x) = Transferred x.rows ∷ []
came_by Skipped = []

-- the attempts by which numbers were reached, in order
abbrev pub attempts_by : List HowReached → List Placed
attempts_by [] = []
attempts_by (ByAttempt p ∷ ways_reached) = p ∷ attempts_by ways_reached
attempts_by (ByTransfer at x ∷ ways_reached) = attempts_by ways_reached
attempts_by (Skipped ∷ ways_reached) = attempts_by ways_reached

-- the states that were transferred, with the offsets of their frames, in order
abbrev pub transfers_by : List HowReached → List (ℕ × Transfer)
transfers_by [] = []
transfers_by (ByAttempt p ∷ ways_reached) = transfers_by ways_reached
transfers_by (ByTransfer at x ∷ ways_reached) = (at, x) ∷ transfers_by ways_reached
transfers_by (Skipped ∷ ways_reached) = transfers_by ways_reached

-- ---- the next state

-- what happened to the rows, but for the attempts that were discarded
abbrev pub path_of : SectionState → List Came
path_of s = flat_map came_by s.ways_reached ++ map (λ p. Ran p.attempt) s.pending

-- the first open attempt is committed
abbrev pub committing : SectionState → List Placed → SectionState
committing s [] = s
committing s (p ∷ pending) =
    record s { last = s.last + 1; ways_reached = s.ways_reached ++ ByAttempt p ∷ []; pending = pending }

-- A state is transferred: the numbers before its own are skipped, and all open attempts are discarded.
abbrev pub after_transfer : SectionState → ℕ → Transfer → SectionState
after_transfer s at x = record s {
  view = x.view;
  last = x.seq;
  ways_reached = s.ways_reached ++ (replicate (x.seq - (s.last + 1)) Skipped ++ ByTransfer at x ∷ []);
  pending = [];
  discarded = s.discarded ++ s.pending;
  rolled_back = false;
}

-- after a step, which has its frame's offset
abbrev pub next : SectionState → ℕ × Step → SectionState
next s (at, Attempts a) =
    record s { pending = s.pending ++ record { offset = at; attempt = a; path = path_of s } ∷ []; rolled_back = false }
next s (at, Commits c) = committing s s.pending
next s (at, RollsBack r) =
    record s { view = r.view; pending = []; discarded = s.discarded ++ s.pending; rolled_back = true }
next s (at, Transfers x) = after_transfer s at x

abbrev pub state_after : SectionState → List (ℕ × Step) → SectionState
state_after s steps = fold next s steps

-- committed or discarded
abbrev pub settled : SectionState → List Placed
settled s = attempts_by s.ways_reached ++ s.discarded

-- ---- which steps are right

abbrev pub no_batch : Batch
no_batch = record { sizes = []; requests = [] }

-- batches are numbered from 1
abbrev pub batch_at : Trace → ℕ → Batch
batch_at t seq = slice_index_or t.batches (seq - 1) (record { sizes = []; requests = [] })

-- how many requests the attempt's batch has
abbrev pub request_count : Trace → Attempt → ℕ
request_count t a = length (batch_at t a.seq).requests

-- its number, view and mode are those that are due
-- Where it isn't so, F20 Attempt stands.
abbrev pub is_due : Trace → SectionState → Attempt → Bool
is_due t s a =
    (a.seq == s.last + 1 + length s.pending) && (nat_le a.seq (length t.batches)
    && (nat_le a.seq (s.last + t.head.window) && ((a.view == s.view) && beq a.serial s.rolled_back)))

-- and it has as many indexes as its batch has requests
-- Where it isn't so, F20 Attempt stands.
abbrev pub is_right_attempt : Trace → SectionState → Attempt → Bool
is_right_attempt t s a = is_due t s a && (length a.certificate == request_count t a)

-- the certificate orders the attempt's batch: it keeps the groups, and in serial mode it is the listed order
abbrev pub is_right_certificate : Trace → Attempt → Bool
is_right_certificate t a = is_certificate (batch_at t a.seq).sizes (request_count t a) a.serial a.certificate

-- how many workers an attempt may have
abbrev pub worker_count : Trace → Attempt → ℕ
worker_count t a = if a.serial then 1 else t.head.workers

-- the worker is there, and the index is one of the batch that no access before it has
-- Where it isn't so, F22 Access stands.
abbrev pub is_right_access : Trace → Attempt → List Access → Access → Bool
is_right_access t a before x =
    nat_lt x.worker (worker_count t a) && (nat_lt x.index (request_count t a)
    && not (list_any (λ y. y.index == x.index) before))

-- the commit is of the first open attempt
abbrev pub commits_first : List Placed → Commit → Bool
commits_first [] c = false
commits_first (p ∷ ps) c = (p.attempt.view == c.view) && pointwise ◌==◌ p.attempt.token c.token

-- the commit is of the next number, and of the first open attempt
-- Where it isn't so, F24 Commit stands.
abbrev pub is_right_commit : SectionState → Commit → Bool
is_right_commit s c = (c.seq == s.last + 1) && commits_first s.pending c

-- the rollback goes back to the last number reached, some batch is left, and the next view begins
-- Where it isn't so, F25 Rollback stands.
abbrev pub is_right_rollback : Trace → SectionState → Rollback → Bool
is_right_rollback t s r = (r.to == s.last) && (nat_lt s.last (length t.batches) && (r.view == s.view + 1))

-- the state is of a later number, which is one of a batch, and its view is no lower
-- Where it isn't so, F26 Transfer stands.
abbrev pub is_right_transfer : Trace → SectionState → Transfer → Bool
is_right_transfer t s x = nat_lt s.last x.seq && (nat_le x.seq (length t.batches) && nat_le s.view x.view)

-- each access is right after those before it
abbrev pub are_right_accesses : Trace → Attempt → List Access → List Access → Bool
are_right_accesses t a before [] = true
are_right_accesses t a before (x ∷ xs) =
    is_right_access t a before x && (is_right_place before x && are_right_accesses t a (before ++ x ∷ []) xs)

-- the step is right where the section has come to this
abbrev pub is_right : Trace → SectionState → Step → Bool
is_right t s (Attempts a) =
    is_right_attempt t s a && (is_right_certificate t a && are_right_accesses t a [] a.accesses)
is_right t s (Commits c) = is_right_commit s c
is_right t s (RollsBack r) = is_right_rollback t s r
is_right t s (Transfers x) = is_right_transfer t s x

-- each step is right after those before it
abbrev pub are_right : Trace → SectionState → List (ℕ × Step) → Bool
are_right t s [] = true
are_right t s (step ∷ steps) = is_right t s step.1 && are_right t (next s step) steps
