-- What becomes of the records that were taken of a batch. docs/DEPLOYMENT.md, "A replica's ledger".
use Rattle.std.specs.Prelude.{◌≡◌, ℕ, ℤ, nat_lt, ◌==◌, Bool, true, false, ◌&&◌, ◌||◌, IsTrue, if◌then◌else◌, ⊤, List}
use Rattle.std.specs.Prelude.{[], ◌∷◌, ◌++◌, map, filter, length, slice_get, Some}
use Rattle.std.specs.List.{AllByRecursion, flat_map, list_all}
use Rattle.std.specs.List.Sorted.{IsPermutation}
use Rattle.eve_smallbank.specs.declared.entry.Entry.{Entry}
use Rattle.eve_smallbank.specs.declared.rows.Touched.{Touched}
use Rattle.eve_smallbank.specs.Access.{Executed, Fits, is_write}
use Rattle.eve_smallbank.specs.Chain.{IsChained, table_after_all}
use Rattle.eve_smallbank.specs.Touch.{touched_of}
use Rattle.eve_grammar.specs.Trace.{Batch, request_with, Access, Attempt}
use Rattle.eve_grammar.specs.Limits.{is_access, is_whole_attempt}
use Rattle.eve_grammar.specs.Certificate.{is_certificate}
use Rattle.eve_grammar.specs.Accesses.{is_new_access, is_right_place}
use Rattle.eve_stamps.specs.Applied.{Applied, executed_as}
use Rattle.eve_token.specs.Token.{token_of}
use Rattle.eve_attempts.specs.declared.prefix.AttemptHead.{AttemptHead}
use Rattle.eve_attempts.specs.Ledgers.{Opened, Ledger, ledger_rows, table_now, rows_committed}

-- ---- the batch

-- what its requests touch, where the customers have these names
abbrev pub touched_in_batch : List (List ℕ) → Batch → List Touched
touched_in_batch names b = map (λ a. touched_of names a.request) b.requests

-- ---- the records

-- at a lesser tick, and of equal ticks with the lesser index
abbrev pub is_earlier_record : Applied → Applied → Bool
is_earlier_record r q = nat_lt r.tick q.tick || ((r.tick == q.tick) && nat_lt r.index q.index)

abbrev pub TicksRise : List Applied → Type 0
TicksRise [] = ⊤
TicksRise (r ∷ rs) = AllByRecursion (λ q. IsTrue (is_earlier_record r q)) rs × TicksRise rs

-- the records in the order of their ticks
pub record IsByTicks (records ordered : List Applied) : Type 0 where
  pub same : IsPermutation records ordered
  pub rising : TicksRise ordered

-- a record as its access frame has it
abbrev pub access_noted : Applied → Access
access_noted r = record { worker = r.worker; place = r.place; index = r.index; entries = r.entries }

-- the batch's request of a record, as it was executed
abbrev pub executed : Batch → Applied → Executed
executed b r = executed_as (request_with b r.index) r

-- what all records note, one after another
abbrev pub entries_in_order : List Applied → List Entry
entries_in_order ordered = flat_map (λ r. r.entries) ordered

-- what all records write
abbrev pub writes_along : List Applied → List Entry
writes_along ordered = filter (λ e. is_write e.kind) (entries_in_order ordered)

-- the indexes
abbrev pub indexes_of : List Applied → List ℕ
indexes_of ordered = map (λ r. r.index) ordered

-- ---- why they are an attempt

-- each is of one of this many workers and has one of this many indexes, which none before it has, and its worker's
-- next place
abbrev pub are_right_records : ℕ → ℕ → List Access → List Access → Bool
are_right_records workers count before [] = true
are_right_records workers count before (x ∷ xs) =
    is_new_access workers count before x
    && (is_right_place before x && are_right_records workers count (before ++ x ∷ []) xs)

-- in serial mode worker 0 is alone
abbrev pub worker_limit : Ledger → Bool → ℕ
worker_limit s serial = if serial then 1 else s.workers

-- One record for each request, whatever their order. Each has entries of rows that are there, at versions within the
-- limit, and fits its request.
pub record AreNoted (workers rows : ℕ) (b : Batch) (touched : List Touched) (records : List Applied) : Type 0 where
  pub many : length records ≡ length b.requests
  pub accesses : IsTrue (are_right_records workers (length b.requests) [] (map access_noted records))
  pub limits : IsTrue (list_all (is_access rows) (map access_noted records))
  pub fit : (names : List (List ℕ)) → touched ≡ touched_in_batch names b
      → AllByRecursion (Fits names) (map (executed b) records)

-- And the order of their ticks keeps the groups, and in it each entry sees what the open attempts and the records
-- before it left.
pub record AreRight (s : Ledger) (serial : Bool) (b : Batch) (touched : List Touched) (records ordered : List Applied) :
    Type 0 where
  pub noted : AreNoted (worker_limit s serial) (ledger_rows s) b touched records
  pub certificate : IsTrue (is_certificate b.sizes (length b.requests) serial (indexes_of ordered))
  pub chained : IsChained (table_now s) [] (map (executed b) ordered)

-- ---- the attempt

-- What the attempt says: number, view and mode as handed in; the indexes in the order of ticks; each record's reply at
-- its index; the version's token of these balances; the records as they came. It lies within the limits of the format.
pub record IsAttemptOf (prefix : AttemptHead) (version rows : ℕ) (balances : List ℤ) (records ordered : List Applied)
    (a : Attempt) : Type 0 where
  pub seq : a.seq ≡ prefix.seq
  pub view : a.view ≡ prefix.view
  pub serial : a.serial ≡ prefix.serial
  pub certificate : a.certificate ≡ indexes_of ordered
  pub many : length a.replies ≡ length records
  pub replies : AllByRecursion (λ r. slice_get a.replies r.index ≡ Some r.reply) records
  pub token : a.token ≡ token_of version a.seq balances a.replies
  pub accesses : a.accesses ≡ map access_noted records
  pub whole : IsTrue (is_whole_attempt rows a)

-- what is kept of an attempt while it is open
abbrev pub opened_as : Attempt → List Applied → Opened
opened_as a ordered = record { view = a.view; token = a.token; written = writes_along ordered }

-- The ledger has one more attempt open, and its rows are what that left; what is committed stays.
pub record Opens (old new : Ledger) (b : Batch) (ordered : List Applied) (a : Attempt) : Type 0 where
  pub changed : new ≡ record old {
    rows = new.rows;
    opened = old.opened ++ opened_as a ordered ∷ [];
    is_next_serial = false;
  }
  pub as_many : ledger_rows new ≡ ledger_rows old
  pub rows : table_now new ≡ table_after_all (table_now old) (map (executed b) ordered)
  pub committed : rows_committed new ≡ rows_committed old

-- The records of a batch became an attempt.
pub record Closes (prefix : AttemptHead) (old new : Ledger) (b : Batch) (touched : List Touched)
    (records : List Applied) (a : Attempt) : Type 0 where
  pub ordered : List Applied
  pub by_ticks : IsByTicks records ordered
  pub right : AreRight old prefix.serial b touched records ordered
  pub attempt : IsAttemptOf prefix old.version (ledger_rows old) new.rows.balances records ordered a
  pub opens : Opens old new b ordered a

-- In no order of their ticks are the records an attempt.
abbrev pub AreMismatched : AttemptHead → Ledger → Batch → List Touched → List Applied → Type 0
AreMismatched prefix s b touched records =
    (ordered : List Applied) → IsByTicks records ordered → ¬ AreRight s prefix.serial b touched records ordered
