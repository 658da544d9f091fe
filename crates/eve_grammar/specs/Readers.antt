-- Reading from left to right. A field is a value and the bytes after it. docs/TRACE.md, "Header", "Frames", "Parts".
use Rattle.std.specs.Prelude.{◌≡◌, ℕ, ℤ, pos, zero, suc, ◌+◌, Bool, true, false, ◌&&◌, nat_le, nat_lt, ◌==◌}
use Rattle.std.specs.Prelude.{if◌then◌else◌, List, [], ◌∷◌, length, take, drop, sum, Option, Some, None}
use Rattle.std.specs.Int.{w64, cast_signed}
use Rattle.std.specs.List.{list_all}
use Rattle.std.specs.Ordering.{int_eq}
use Rattle.byteorder.specs.Endian.{big_number}
use Rattle.eve_accounts.specs.Money.{is_balance, is_saving, is_amount}
use Rattle.eve_accounts.specs.Names.{is_name}
use Rattle.eve_smallbank.specs.SmallBank.{Request, Balance, DepositChecking, TransactSaving, Amalgamate, WriteCheck}
use Rattle.eve_smallbank.specs.declared.request.Abort.TheVariants.{NoSuchName, BadAmount, Insufficient, OutOfRange}
use Rattle.eve_smallbank.specs.declared.request.Reply.{Reply}
use Rattle.eve_smallbank.specs.declared.request.Reply.TheVariants.{Done, Total, Aborted}
use Rattle.eve_smallbank.specs.declared.entry.Kind.{Kind}
use Rattle.eve_smallbank.specs.declared.entry.Kind.TheVariants.{Read, Write}
use Rattle.eve_smallbank.specs.declared.entry.Entry.{Entry}
use Rattle.eve_smallbank.specs.declared.versioned.Versioned.{Versioned}
use Rattle.eve_grammar.specs.Trace.{Customer, Asked, Batch, Access, Attempt, Commit, Rollback, Transfer, Choice}
use Rattle.eve_grammar.specs.Trace.{ForRollback, ForCommit, Vote, Sent}
use Rattle.eve_grammar.specs.Frames.{Frame, OfCustomer, OfBatch, OfReplica, OfAttempt, OfAccess, OfCommit, OfRollback}
use Rattle.eve_grammar.specs.Frames.{OfTransfer, OfVerifier, OfVote, OfSent, End}
use Rattle.eve_grammar.specs.declared.limits.TheConstants.{MOST_REQUESTS, MOST_ENTRIES}
use Rattle.eve_grammar.specs.declared.frame_kind.TheConstants.{CUSTOMER_FRAME, BATCH_FRAME, REPLICA_FRAME}
use Rattle.eve_grammar.specs.declared.frame_kind.TheConstants.{ATTEMPT_FRAME, ACCESS_FRAME, COMMIT_FRAME}
use Rattle.eve_grammar.specs.declared.frame_kind.TheConstants.{ROLLBACK_FRAME, TRANSFER_FRAME, VERIFIER_FRAME}
use Rattle.eve_grammar.specs.declared.frame_kind.TheConstants.{VOTE_FRAME, SENT_FRAME, END_FRAME}
use Rattle.eve_grammar.specs.Limits.{is_between, is_entry, is_restore, is_rising, is_versioned, are_no_debts, is_head}
use Rattle.eve_grammar.specs.Limits.{row_count}
use Rattle.eve_grammar.specs.declared.head.Head.{Head}
use Rattle.eve_grammar.specs.declared.restore.Restore.{Restore}
use Rattle.eve_grammar.specs.declared.place.Place.{Place}

-- ---- how readers are put together

infixl 10 ◌>>=◌
-- a step after a step that found something
abbrev pub ◌>>=◌ : {A B : Type 0} → Option A → (A → Option B) → Option B
(Some x) >>= f = f x
None >>= f = None

-- what a function returned, seen by view, is what reading gives
abbrev pub Gives : {X Y : Type 0} → (X → Y) → Option X → Option Y → Type 0
Gives view (Some x) read = read ≡ Some (view x)
Gives view None read = read ≡ None

-- a value at the beginning of bytes, and the bytes after it
abbrev pub Reader : Type 0 → Type 0
Reader A = List ℕ → Option (A × List ℕ)

-- a number of this many bytes
abbrev pub number_at : ℕ → Reader ℕ
number_at n bytes = if nat_lt (length bytes) n then None else Some (big_number n bytes, drop n bytes)

-- this many bytes as they are
abbrev pub bytes_at : ℕ → Reader (List ℕ)
bytes_at n bytes = if nat_lt (length bytes) n then None else Some (take n bytes, drop n bytes)

-- one field and then the other
abbrev pub both : {A B : Type 0} → Reader A → Reader B → Reader (A × B)
both one two bytes = one bytes >>= λ x. two x.1 >>= λ y. Some ((x.0, y.0), y.1)

-- the same where the first field says how the second is read
abbrev pub both_by : {A B : Type 0} → Reader A → (A → Reader B) → Reader (A × B)
both_by one two bytes = one bytes >>= λ x. two x.0 x.1 >>= λ y. Some ((x.0, y.0), y.1)

-- a field that says how the next is read, and the next alone
abbrev pub led_by : {A B : Type 0} → Reader A → (A → Reader B) → Reader B
led_by one two bytes = one bytes >>= λ x. two x.0 x.1

-- what a function makes of a field
abbrev pub made : {A B : Type 0} → (A → B) → Reader A → Reader B
made to one bytes = one bytes >>= λ x. Some (to x.0, x.1)

-- the same for a function that makes nothing of some
abbrev pub made_if : {A B : Type 0} → (A → Option B) → Reader A → Reader B
made_if to one bytes = one bytes >>= λ x. to x.0 >>= λ y. Some (y, x.1)

-- a field that passes a test
abbrev pub only : {A : Type 0} → (A → Bool) → Reader A → Reader A
only test one bytes = one bytes >>= λ x. if test x.0 then Some x else None

-- a field after this number of n bytes
abbrev pub behind : {A : Type 0} → ℕ → ℕ → Reader A → Reader A
behind n number one bytes = number_at n bytes >>= λ x. if x.0 == number then one x.1 else None

-- a field, and nothing after it
abbrev pub whole : {A : Type 0} → Reader A → List ℕ → Option A
whole one bytes = one bytes >>= λ x. if length x.1 == 0 then Some x.0 else None

-- this many of a field, one after the other
unfoldable pub many_at : {A : Type 0} → Reader A → ℕ → Reader (List A)
many_at one zero bytes = Some ([], bytes)
many_at one (suc n) bytes = one bytes >>= λ x. many_at one n x.1 >>= λ y. Some (x.0 ∷ y.0, y.1)

-- ---- fields

-- a length of one byte and a name of that length
unfoldable pub name_at : Reader (List ℕ)
name_at = only is_name (led_by (number_at 1) bytes_at)

-- eight bytes, two's complement
abbrev pub signed_at : Reader ℤ
signed_at = made (cast_signed w64) (number_at 8)

-- a balance within its range
unfoldable pub balance_at : Reader ℤ
balance_at = only is_balance signed_at

-- a balance that savings may open with
unfoldable pub saving_at : Reader ℤ
saving_at = only is_saving signed_at

-- an amount within its range
unfoldable pub amount_at : Reader ℤ
amount_at = only is_amount signed_at

-- 32 bytes as they are
unfoldable pub token_at : Reader (List ℕ)
token_at = bytes_at 32

-- ---- requests

-- a name and an amount
unfoldable pub move_at : Reader (List ℕ × ℤ)
move_at = both name_at amount_at

-- what stands after a request's code
unfoldable pub coded_at : ℕ → Reader Request
coded_at code bytes =
    if code == 1 then made Balance name_at bytes
    else if code == 2 then made (λ m. DepositChecking m.0 m.1) move_at bytes
    else if code == 3 then made (λ m. TransactSaving m.0 m.1) move_at bytes
    else if code == 4 then made (λ m. Amalgamate m.0 m.1) (both name_at name_at) bytes
    else if code == 5 then made (λ m. WriteCheck m.0 m.1) move_at bytes
    else None

-- a code, and what stands after it
unfoldable pub request_at : Reader Request
request_at = led_by (number_at 1) coded_at

-- the fields of a request with its client and number
abbrev pub asked_from : ℕ × (ℕ × Request) → Asked
asked_from p = record { client = p.0; number = p.1.0; request = p.1.1 }

-- a client, a number, a request
unfoldable pub asked_at : Reader Asked
asked_at = made asked_from (both (number_at 4) (both (number_at 8) request_at))

-- ---- replies

-- the reply of a code that has no value
abbrev pub plain_reply : ℕ → Option Reply
plain_reply code =
    if code == 0 then Some Done
    else if code == 2 then Some (Aborted NoSuchName)
    else if code == 3 then Some (Aborted BadAmount)
    else if code == 4 then Some (Aborted Insufficient)
    else if code == 5 then Some (Aborted OutOfRange)
    else None

-- a code and a value, which is 0 except for a total
abbrev pub reply_from : ℕ × ℤ → Option Reply
reply_from p = if p.0 == 1 then Some (Total p.1) else if int_eq p.1 (pos 0) then plain_reply p.0 else None

-- a reply in nine bytes
unfoldable pub reply_at : Reader Reply
reply_at = made_if reply_from (both (number_at 1) signed_at)

-- ---- entries and restores

-- the kind of a code
abbrev pub kind_from : ℕ → Option Kind
kind_from code = if code == 0 then Some Read else if code == 1 then Some Write else None

-- an entry's fields
abbrev pub entry_from : ℕ × (Kind × (ℕ × (ℤ × ℤ))) → Entry
entry_from p = record { row = p.0; kind = p.1.0; version = p.1.1.0; seen = p.1.1.1.0; after = p.1.1.1.1 }

-- an entry's fields, within limits or not
unfoldable pub entry_fields_at : Reader Entry
entry_fields_at = made entry_from
    (both (number_at 4) (both (made_if kind_from (number_at 1)) (both (number_at 8) (both signed_at signed_at))))

-- an entry of one of this many rows
unfoldable pub entry_at : ℕ → Reader Entry
entry_at rows = only (is_entry rows) entry_fields_at

-- a restore's fields
abbrev pub restore_from : ℕ × (ℕ × ℤ) → Restore
restore_from p = record { row = p.0; version = p.1.0; value = p.1.1 }

-- a restore's fields, within limits or not
unfoldable pub restore_fields_at : Reader Restore
restore_fields_at = made restore_from (both (number_at 4) (both (number_at 8) signed_at))

-- a restore of one of this many rows
unfoldable pub restore_at : ℕ → Reader Restore
restore_at rows = only (is_restore rows) restore_fields_at

-- a version and a value
abbrev pub versioned_from : ℕ × ℤ → Versioned
versioned_from p = record { version = p.0; value = p.1 }

-- a version and a value, within limits or not
unfoldable pub versioned_fields_at : Reader Versioned
versioned_fields_at = made versioned_from (both (number_at 8) signed_at)

-- a version and a value within their limits
unfoldable pub versioned_at : Reader Versioned
versioned_at = only is_versioned versioned_fields_at

-- ---- bodies of frames

-- a customer's fields
abbrev pub customer_from : List ℕ × (ℤ × ℤ) → Customer
customer_from p = record { name = p.0; saving = p.1.0; checking = p.1.1 }

-- a name and two balances
unfoldable pub customer_of : List ℕ → Option Customer
customer_of = whole (made customer_from (both name_at (both saving_at balance_at)))

-- one size or more, none 0, and no more requests than a batch may have
abbrev pub are_sizes : List ℕ → Bool
are_sizes sizes = nat_le 1 (length sizes) && (list_all (nat_le 1) sizes && nat_le (sum sizes) MOST_REQUESTS)

-- the sizes of parallelBatches, after their count
unfoldable pub sizes_at : Reader (List ℕ)
sizes_at = only are_sizes (led_by (number_at 2) (many_at (number_at 2)))

-- a batch's sizes and requests
abbrev pub batch_from : List ℕ × List Asked → Batch
batch_from p = record { sizes = p.0; requests = p.1 }

-- a batch's number, and the batch
unfoldable pub batch_of : List ℕ → Option (ℕ × Batch)
batch_of = whole (both (number_at 4) (made batch_from (both_by sizes_at (λ sizes. many_at asked_at (sum sizes)))))

-- the body that is a number of one byte
unfoldable pub number_of : List ℕ → Option ℕ
number_of = whole (number_at 1)

-- whether a mode is the serial one
abbrev pub serial_from : ℕ → Option Bool
serial_from mode = if mode == 0 then Some false else if mode == 1 then Some true else None

-- the certificate and as many replies, after their count
unfoldable pub certified_at : Reader (List ℕ × List Reply)
certified_at = led_by (only (is_between 1 MOST_REQUESTS) (number_at 2))
    (λ count. both (many_at (number_at 2) count) (many_at reply_at count))

-- an attempt's fields
abbrev pub attempt_from : ℕ × (ℕ × (Bool × ((List ℕ × List Reply) × List ℕ))) → Attempt
attempt_from p =
    record {
      seq = p.0;
      view = p.1.0;
      serial = p.1.1.0;
      certificate = p.1.1.1.0.0;
      replies = p.1.1.1.0.1;
      token = p.1.1.1.1;
      accesses = [];
    }

-- an attempt as its own frame says it, without accesses
unfoldable pub attempt_of : List ℕ → Option Attempt
attempt_of = whole (made attempt_from
    (both (number_at 4) (both (number_at 4) (both (made_if serial_from (number_at 1)) (both certified_at token_at)))))

-- an access record's fields
abbrev pub access_from : ℕ × (ℕ × (ℕ × List Entry)) → Access
access_from p = record { worker = p.0; place = p.1.0; index = p.1.1.0; entries = p.1.1.1 }

-- three entries at most, after their count
unfoldable pub entries_at : ℕ → Reader (List Entry)
entries_at rows = led_by (only (λ count. nat_le count MOST_ENTRIES) (number_at 1)) (many_at (entry_at rows))

-- a worker, a place, an index, the entries
unfoldable pub access_of : ℕ → List ℕ → Option Access
access_of rows = whole (made access_from
    (both (number_at 1) (both (number_at 2) (both (number_at 2) (entries_at rows)))))

-- a commit's fields
abbrev pub commit_from : ℕ × (ℕ × List ℕ) → Commit
commit_from p = record { seq = p.0; view = p.1.0; token = p.1.1 }

-- a number, a view, a token
unfoldable pub commit_of : List ℕ → Option Commit
commit_of = whole (made commit_from (both (number_at 4) (both (number_at 4) token_at)))

-- restores of rising rows, after their count
unfoldable pub restores_at : ℕ → Reader (List Restore)
restores_at rows = only is_rising (led_by (number_at 4) (many_at (restore_at rows)))

-- a rollback's fields
abbrev pub rollback_from : ℕ × (ℕ × List Restore) → Rollback
rollback_from p = record { to = p.0; view = p.1.0; restores = p.1.1 }

-- a number, a view, the restores
unfoldable pub rollback_of : ℕ → List ℕ → Option Rollback
rollback_of rows = whole (made rollback_from (both (number_at 4) (both (number_at 4) (restores_at rows))))

-- what each of this many rows has
unfoldable pub state_rows_at : ℕ → Reader (List Versioned)
state_rows_at rows = only (are_no_debts 0) (many_at versioned_at rows)

-- a transfer's fields
abbrev pub transfer_from : ℕ × (ℕ × List Versioned) → Transfer
transfer_from p = record { seq = p.0; view = p.1.0; rows = p.1.1 }

-- a number, a view, the rows
unfoldable pub transfer_of : ℕ → List ℕ → Option Transfer
transfer_of rows = whole (made transfer_from (both (number_at 4) (both (number_at 4) (state_rows_at rows))))

-- a choice and a token, which is zeros for a rollback
abbrev pub choice_from : ℕ × List ℕ → Option Choice
choice_from p =
    if p.0 == 1 then Some (ForCommit p.1)
    else if p.0 == 0 then (if list_all (λ byte. byte == 0) p.1 then Some ForRollback else None)
    else None

-- a vote's fields
abbrev pub vote_from : ℕ × (ℕ × Choice) → Vote
vote_from p = record { seq = p.0; view = p.1.0; choice = p.1.1 }

-- a vote on one of this many batches
unfoldable pub vote_of : ℕ → List ℕ → Option Vote
vote_of batches = whole (made vote_from
    (both (only (is_between 1 batches) (number_at 4))
    (both (number_at 4) (made_if choice_from (both (number_at 1) token_at)))))

-- the fields of a reply sent
abbrev pub sent_from : ℕ × (ℕ × (ℕ × (ℕ × Reply))) → Sent
sent_from p = record { client = p.0; number = p.1.0; replica = p.1.1.0; seq = p.1.1.1.0; reply = p.1.1.1.1 }

-- a reply of one of this many replicas, in one of this many batches
unfoldable pub sent_of : ℕ → ℕ → List ℕ → Option Sent
sent_of replicas batches =
    whole (made sent_from (both (number_at 4) (both (number_at 8)
    (both (only (λ replica. nat_lt replica replicas) (number_at 1))
    (both (only (is_between 1 batches) (number_at 4)) reply_at)))))

-- the body of a kind that may stand at this place, as the frame that it makes
unfoldable pub body_of : Head → Place → ℕ → List ℕ → Option Frame
body_of h p kind body =
    if kind == CUSTOMER_FRAME then (customer_of body >>= λ c. Some (OfCustomer c))
    else if kind == BATCH_FRAME
    then (batch_of body >>= λ b. if b.0 == p.batches + 1 then Some (OfBatch b.0 b.1) else None)
    else if kind == REPLICA_FRAME then (number_of body >>= λ n. if n == p.replicas then Some (OfReplica n) else None)
    else if kind == ATTEMPT_FRAME then (attempt_of body >>= λ a. Some (OfAttempt a))
    else if kind == ACCESS_FRAME then (access_of (row_count h) body >>= λ x. Some (OfAccess x))
    else if kind == COMMIT_FRAME then (commit_of body >>= λ c. Some (OfCommit c))
    else if kind == ROLLBACK_FRAME then (rollback_of (row_count h) body >>= λ r. Some (OfRollback r))
    else if kind == TRANSFER_FRAME then (transfer_of (row_count h) body >>= λ x. Some (OfTransfer x))
    else if kind == VERIFIER_FRAME then (number_of body >>= λ n. if n == p.verifiers then Some (OfVerifier n) else None)
    else if kind == VOTE_FRAME then (vote_of h.batches body >>= λ v. Some (OfVote v))
    else if kind == SENT_FRAME then (sent_of h.replicas h.batches body >>= λ s. Some (OfSent s))
    else if kind == END_FRAME then (if length body == 0 then Some End else None)
    else None

-- ---- the header

-- a header's numbers
abbrev pub head_from : ℕ × (ℕ × (ℕ × (ℕ × (ℕ × (ℕ × (ℕ × ℕ)))))) → Head
head_from p =
    record {
      version = p.0;
      replicas = p.1.0;
      verifiers = p.1.1.0;
      quorum = p.1.1.1.0;
      window = p.1.1.1.1.0;
      workers = p.1.1.1.1.1.0;
      customers = p.1.1.1.1.1.1.0;
      batches = p.1.1.1.1.1.1.1;
    }

-- the header between its first six bytes and the length: the version, the limits around three zero bytes
unfoldable pub header_of : List ℕ → Option Head
header_of =
    whole (only is_head (made head_from (both (number_at 2)
    (both (number_at 1) (both (number_at 1) (both (number_at 1) (both (number_at 1) (both (number_at 1)
    (behind 3 0 (both (number_at 4) (number_at 4)))))))))))
