-- Which traces there are: the limits of the format and the conditions of its fields.
-- docs/MODEL.md, "Trace" and "Limits"; docs/TRACE.md, "Header", "Frames", "Parts".
use Rattle.std.specs.Prelude.{ℕ, pos, negsuc, ◌+◌, ◌-◌, ◌*◌, ◌%◌, ◌^◌, ◌<◌, ◌≤◌, nat_le, nat_lt, ◌==◌, Bool, true, not}
use Rattle.std.specs.Prelude.{◌&&◌, ◌||◌, if◌then◌else◌, IsTrue, List, [], ◌∷◌, length, sum, ◌≡◌}
use Rattle.std.specs.List.{list_all}
use Rattle.std.specs.Ordering.{int_eq}
use Rattle.std.specs.Int.RustNames.{int_le}
use Rattle.eve_accounts.specs.Money.{is_balance, is_amount}
use Rattle.eve_accounts.specs.Names.{is_name}
use Rattle.eve_smallbank.specs.SmallBank.{Request, Balance, DepositChecking, TransactSaving, Amalgamate, WriteCheck}
use Rattle.eve_smallbank.specs.Access.{is_write}
use Rattle.eve_smallbank.specs.declared.request.Reply.{Reply}
use Rattle.eve_smallbank.specs.declared.request.Reply.TheVariants.{Total}
use Rattle.eve_smallbank.specs.declared.entry.Entry.{Entry}
use Rattle.eve_smallbank.specs.declared.versioned.Versioned.{Versioned}
use Rattle.eve_grammar.specs.declared.limits.TheConstants.{MOST_REPLICAS, MOST_VERIFIERS, MOST_WINDOW, MOST_WORKERS}
use Rattle.eve_grammar.specs.declared.limits.TheConstants.{MOST_CUSTOMERS, MOST_BATCHES, MOST_REQUESTS, MOST_ENTRIES}
use Rattle.eve_grammar.specs.declared.limits.TheConstants.{MOST_VERSIONS, MOST_CUSTOMERS_OF_VERSION_1, NEWEST_VERSION}
use Rattle.eve_grammar.specs.Trace.{Customer, Asked, Batch, Access, Attempt, Commit, Rollback, Step, Attempts}
use Rattle.eve_grammar.specs.Trace.{Commits, RollsBack, Transfer, Transfers, Choice, ForRollback, ForCommit, Vote}
use Rattle.eve_grammar.specs.Trace.{Sent, Trace, head_of}
use Rattle.eve_grammar.specs.Frames.{Frame, OfCustomer, OfBatch, OfReplica, OfAttempt, OfAccess, OfCommit, OfRollback}
use Rattle.eve_grammar.specs.Frames.{OfTransfer, OfVerifier, OfVote, OfSent, End, kind_of, has_transfers, is_allowed}
use Rattle.eve_grammar.specs.Spelling.{body_text}
use Rattle.eve_grammar.specs.declared.head.Head.{Head}
use Rattle.eve_grammar.specs.declared.restore.Restore.{Restore}
use Rattle.eve_grammar.specs.declared.place.Place.{Place}

-- from the one to the other, both with them
abbrev pub is_between : ℕ → ℕ → ℕ → Bool
is_between low high n = nat_le low n && nat_le n high

-- a number of this many bytes
abbrev pub is_number : ℕ → ℕ → Bool
is_number bytes n = nat_lt n (256 ^ bytes)

-- 32 bytes
abbrev pub is_token : List ℕ → Bool
is_token token = (length token == 32) && list_all (is_number 1) token

-- ---- requests and replies

-- names and amounts within their limits
abbrev pub is_request : Request → Bool
is_request (Balance name) = is_name name
is_request (DepositChecking name amount) = is_name name && is_amount amount
is_request (TransactSaving name amount) = is_name name && is_amount amount
is_request (Amalgamate from to) = is_name from && is_name to
is_request (WriteCheck name amount) = is_name name && is_amount amount

-- a client of four bytes and a number of eight
abbrev pub is_asked : Asked → Bool
is_asked a = is_number 4 a.client && (is_number 8 a.number && is_request a.request)

-- a total fits 64 bits
abbrev pub is_reply : Reply → Bool
is_reply (Total sum) = int_le (negsuc (2 ^ 63 - 1)) sum && int_le sum (pos (2 ^ 63 - 1))
is_reply _ = true

-- ---- bodies of frames

-- a name, and balances of which the saving isn't below 0
abbrev pub is_customer : Customer → Bool
is_customer c = is_name c.name && ((is_balance c.saving && int_le (pos 0) c.saving) && is_balance c.checking)

-- one parallelBatch or more, none empty, and no more requests than a batch may have
abbrev pub is_batch : Batch → Bool
is_batch b =
    nat_le 1 (length b.sizes) && (list_all (nat_le 1) b.sizes && (nat_le (sum b.sizes) MOST_REQUESTS
    && ((length b.requests == sum b.sizes) && list_all is_asked b.requests)))

-- an entry of one of this many rows; a read leaves what it saw
abbrev pub is_entry : ℕ → Entry → Bool
is_entry rows e =
    nat_lt e.row rows && (nat_le e.version MOST_VERSIONS
    && (is_balance e.seen && (is_balance e.after && (is_write e.kind || int_eq e.after e.seen))))

-- numbers of one and two bytes, and no more entries than a request may have
abbrev pub is_access : ℕ → Access → Bool
is_access rows x =
    is_number 1 x.worker && (is_number 2 x.place && (is_number 2 x.index
    && (nat_le (length x.entries) MOST_ENTRIES && list_all (is_entry rows) x.entries)))

-- an attempt as its own frame says it: one reply for each index of the certificate
abbrev pub is_attempt : Attempt → Bool
is_attempt a =
    is_number 4 a.seq && (is_number 4 a.view
    && (is_between 1 MOST_REQUESTS (length a.certificate) && (list_all (is_number 2) a.certificate
    && ((length a.replies == length a.certificate) && (list_all is_reply a.replies && is_token a.token)))))

-- and with its accesses: as many of them
abbrev pub is_whole_attempt : ℕ → Attempt → Bool
is_whole_attempt rows a =
    is_attempt a && ((length a.accesses == length a.certificate) && list_all (is_access rows) a.accesses)

-- numbers of four bytes, and a token
abbrev pub is_commit : Commit → Bool
is_commit c = is_number 4 c.seq && (is_number 4 c.view && is_token c.token)

-- one of this many rows, within the limits
abbrev pub is_restore : ℕ → Restore → Bool
is_restore rows r = nat_lt r.row rows && (nat_le r.version MOST_VERSIONS && is_balance r.value)

-- each row is below the rows after it
abbrev pub is_rising : List Restore → Bool
is_rising [] = true
is_rising (r ∷ rs) = list_all (λ q. nat_lt r.row q.row) rs && is_rising rs

-- numbers of four bytes, and restores of rising rows
abbrev pub is_rollback : ℕ → Rollback → Bool
is_rollback rows r =
    is_number 4 r.to && (is_number 4 r.view && (is_rising r.restores && list_all (is_restore rows) r.restores))

-- a version and a value within their limits
abbrev pub is_versioned : Versioned → Bool
is_versioned x = nat_le x.version MOST_VERSIONS && is_balance x.value

-- the value of the row with this number is none below 0 where savings stand in it: in every row of an even number
abbrev pub is_no_debt : ℕ → Versioned → Bool
is_no_debt row x = not (row % 2 == 0) || int_le (pos 0) x.value

-- so are those of the rows from this number on
abbrev pub are_no_debts : ℕ → List Versioned → Bool
are_no_debts row [] = true
are_no_debts row (x ∷ xs) = is_no_debt row x && are_no_debts (row + 1) xs

-- numbers of four bytes, and a version and a value for each of this many rows, with no saving below 0
abbrev pub is_transfer : ℕ → Transfer → Bool
is_transfer rows x =
    is_number 4 x.seq && (is_number 4 x.view
    && (are_no_debts 0 x.rows && ((length x.rows == rows) && list_all is_versioned x.rows)))

-- each kind by its own test
abbrev pub is_step : ℕ → Step → Bool
is_step rows (Attempts a) = is_whole_attempt rows a
is_step rows (Commits c) = is_commit c
is_step rows (RollsBack r) = is_rollback rows r
is_step rows (Transfers x) = is_transfer rows x

-- a transfer stands only in a version that has them
abbrev pub is_of_version : ℕ → Step → Bool
is_of_version version (Attempts a) = true
is_of_version version (Commits c) = true
is_of_version version (RollsBack r) = true
is_of_version version (Transfers x) = has_transfers version

-- a token where there is one
abbrev pub is_choice : Choice → Bool
is_choice ForRollback = true
is_choice (ForCommit token) = is_token token

-- a vote on one of this many batches
abbrev pub is_vote : ℕ → Vote → Bool
is_vote batches v = is_between 1 batches v.seq && (is_number 4 v.view && is_choice v.choice)

-- a reply of one of this many replicas, in one of this many batches
abbrev pub is_sent : ℕ → ℕ → Sent → Bool
is_sent replicas batches s =
    is_number 4 s.client && (is_number 8 s.number
    && (nat_lt s.replica replicas && (is_between 1 batches s.seq && is_reply s.reply)))

-- ---- the header

-- customers of a trace of this version
abbrev pub most_customers : ℕ → ℕ
most_customers version = if version == 1 then MOST_CUSTOMERS_OF_VERSION_1 else MOST_CUSTOMERS

-- each number within its limit, the customers within that of the version, and more than half of the verifiers decide
abbrev pub is_head : Head → Bool
is_head h =
    is_between 1 NEWEST_VERSION h.version && (is_between 1 MOST_REPLICAS h.replicas
    && (is_between 1 MOST_VERIFIERS h.verifiers && (nat_le h.quorum h.verifiers && (nat_lt h.verifiers (2 * h.quorum)
    && (is_between 1 MOST_WINDOW h.window && (is_between 1 MOST_WORKERS h.workers
    && (is_between 1 (most_customers h.version) h.customers && nat_le h.batches MOST_BATCHES)))))))

-- the limits of a right header by name
pub record HasHeadLimits (h : Head) : Type 0 where
  pub some_version : 1 ≤ h.version
  pub known_version : h.version ≤ NEWEST_VERSION
  pub some_replicas : 1 ≤ h.replicas
  pub few_replicas : h.replicas ≤ MOST_REPLICAS
  pub some_verifiers : 1 ≤ h.verifiers
  pub few_verifiers : h.verifiers ≤ MOST_VERIFIERS
  pub quorum : h.quorum ≤ h.verifiers
  pub majority : h.verifiers < 2 * h.quorum
  pub some_window : 1 ≤ h.window
  pub few_window : h.window ≤ MOST_WINDOW
  pub some_workers : 1 ≤ h.workers
  pub few_workers : h.workers ≤ MOST_WORKERS
  pub some_customers : 1 ≤ h.customers
  pub few_customers : h.customers ≤ most_customers h.version
  pub few_batches : h.batches ≤ MOST_BATCHES

-- two rows for each customer
abbrev pub row_count : Head → ℕ
row_count h = 2 * h.customers

-- ---- the whole

-- all limits but that on the length
pub record HasLimits (t : Trace) : Type 0 where
  pub counts : t.head ≡ head_of t
  pub head : IsTrue (is_head (head_of t))
  pub customers : IsTrue (list_all is_customer t.customers)
  pub batches : IsTrue (list_all is_batch t.batches)
  pub sections : IsTrue (list_all (list_all (is_step (row_count (head_of t)))) t.sections)
  pub kinds : IsTrue (list_all (list_all (is_of_version t.head.version)) t.sections)
  pub votes : IsTrue (list_all (list_all (is_vote (length t.batches))) t.verifiers)
  pub sent : IsTrue (list_all (is_sent (length t.sections) (length t.batches)) t.sent)

-- ---- frame by frame

-- what the body of a frame at this place has to say
abbrev pub is_body : Head → Place → Frame → Bool
is_body h p (OfCustomer c) = is_customer c
is_body h p (OfBatch number b) = (number == p.batches + 1) && is_batch b
is_body h p (OfReplica number) = number == p.replicas
is_body h p (OfAttempt a) = is_attempt a && (length a.accesses == 0)
is_body h p (OfAccess x) = is_access (2 * h.customers) x
is_body h p (OfCommit c) = is_commit c
is_body h p (OfRollback r) = is_rollback (2 * h.customers) r
is_body h p (OfTransfer x) = is_transfer (2 * h.customers) x
is_body h p (OfVerifier number) = number == p.verifiers
is_body h p (OfVote v) = is_vote h.batches v
is_body h p (OfSent s) = is_sent h.replicas h.batches s
is_body h p End = true

-- the frame may stand at this place
pub record FitsAt (h : Head) (p : Place) (f : Frame) : Type 0 where
  pub allowed : IsTrue (is_allowed h p (kind_of f))
  pub body : IsTrue (is_body h p f)
  pub short : length (body_text f) < 2 ^ 32
