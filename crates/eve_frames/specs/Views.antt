-- What frames say, by their bytes: by the body after the first five, which are the kind and the length.
-- docs/TRACE.md, "Frames".
use Rattle.std.specs.Prelude.{ℕ, ◌-◌, ◌/◌, pos, Bool, false, IsTrue, ◌≡◌, List, [], drop, length, is_some, unwrap_or}
use Rattle.eve_smallbank.specs.declared.request.Reply.TheVariants.{Done}
use Rattle.eve_grammar.specs.Trace.{Customer, Batch, Attempt, Access, Commit, Rollback, Transfer, ForRollback}
use Rattle.eve_grammar.specs.Trace.{Vote, Sent}
use Rattle.eve_grammar.specs.declared.limits.TheConstants.{MOST_ROWS, MOST_REPLICAS, MOST_BATCHES}
use Rattle.eve_grammar.specs.Readers.{customer_of, batch_of, attempt_of, access_of, commit_of, rollback_of, vote_of}
use Rattle.eve_grammar.specs.Readers.{transfer_of, sent_of}
use Rattle.eve_grammar.specs.declared.frame_kind.TheConstants.{FRAME_HEAD_LEN}

-- after a frame's kind and length
abbrev pub body_in : List ℕ → List ℕ
body_in bytes = drop FRAME_HEAD_LEN bytes

-- ---- whether a body of the kind stands after the first five bytes, whatever these are

-- the body of a Customer frame
abbrev pub has_customer_body : List ℕ → Bool
has_customer_body bytes = is_some (customer_of (body_in bytes))

-- the body of a Batch frame
abbrev pub has_batch_body : List ℕ → Bool
has_batch_body bytes = is_some (batch_of (body_in bytes))

-- the body of an Attempt frame
abbrev pub has_attempt_body : List ℕ → Bool
has_attempt_body bytes = is_some (attempt_of (body_in bytes))

-- the body of an Access frame
abbrev pub has_access_body : List ℕ → Bool
has_access_body bytes = is_some (access_of MOST_ROWS (body_in bytes))

-- the body of a Commit frame
abbrev pub has_commit_body : List ℕ → Bool
has_commit_body bytes = is_some (commit_of (body_in bytes))

-- the body of a Rollback frame
abbrev pub has_rollback_body : List ℕ → Bool
has_rollback_body bytes = is_some (rollback_of MOST_ROWS (body_in bytes))

-- how many rows the body of a Transfer frame of this length has
abbrev pub state_rows_in : List ℕ → ℕ
state_rows_in bytes = (length (body_in bytes) - 8) / 16

-- the body of a Transfer frame
abbrev pub has_transfer_body : List ℕ → Bool
has_transfer_body bytes = is_some (transfer_of (state_rows_in bytes) (body_in bytes))

-- the body of a Vote frame
abbrev pub has_vote_body : List ℕ → Bool
has_vote_body bytes = is_some (vote_of MOST_BATCHES (body_in bytes))

-- the body of a Sent frame
abbrev pub has_sent_body : List ℕ → Bool
has_sent_body bytes = is_some (sent_of MOST_REPLICAS MOST_BATCHES (body_in bytes))

-- ---- what the body after the first five bytes says, and a value of no meaning where it is none of the kind

-- a customer
unfoldable pub customer_in : List ℕ → Customer
customer_in bytes = unwrap_or (customer_of (body_in bytes)) (record { name = []; saving = pos 0; checking = pos 0 })

-- a batch with its number
unfoldable pub batch_in : List ℕ → ℕ × Batch
batch_in bytes = unwrap_or (batch_of (body_in bytes)) (0, record { sizes = []; requests = [] })

-- an attempt without its accesses, which have frames of their own
unfoldable pub attempt_in : List ℕ → Attempt
attempt_in bytes =
    unwrap_or (attempt_of (body_in bytes))
    (record { seq = 0; view = 0; serial = false; certificate = []; replies = []; token = []; accesses = [] })

-- an access record
unfoldable pub access_in : List ℕ → Access
access_in bytes = unwrap_or (access_of MOST_ROWS (body_in bytes))
    (record { worker = 0; place = 0; index = 0; entries = [] })

-- a commit
unfoldable pub commit_in : List ℕ → Commit
commit_in bytes = unwrap_or (commit_of (body_in bytes)) (record { seq = 0; view = 0; token = [] })

-- a rollback
unfoldable pub rollback_in : List ℕ → Rollback
rollback_in bytes = unwrap_or (rollback_of MOST_ROWS (body_in bytes)) (record { to = 0; view = 0; restores = [] })

-- a state transferred
unfoldable pub transfer_in : List ℕ → Transfer
transfer_in bytes =
    unwrap_or (transfer_of (state_rows_in bytes) (body_in bytes)) (record { seq = 0; view = 0; rows = [] })

-- a vote
unfoldable pub vote_in : List ℕ → Vote
vote_in bytes = unwrap_or (vote_of MOST_BATCHES (body_in bytes)) (record { seq = 0; view = 0; choice = ForRollback })

-- a reply sent
unfoldable pub sent_in : List ℕ → Sent
sent_in bytes = unwrap_or (sent_of MOST_REPLICAS MOST_BATCHES (body_in bytes))
    (record { client = 0; number = 0; replica = 0; seq = 0; reply = Done })

-- ---- a body of the kind stands there, and says this

-- by this test, and this is what is read of the bytes
abbrev pub Says : {A : Type 0} → (List ℕ → Bool) → (List ℕ → A) → List ℕ → A → Type 0
Says is_frame read bytes x = IsTrue (is_frame bytes) × (read bytes ≡ x)
