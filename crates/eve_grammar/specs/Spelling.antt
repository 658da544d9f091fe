-- The bytes of a trace. All numbers are big-endian.
-- docs/MODEL.md, "Trace"; docs/TRACE.md, "Header", "Order of frames", "Frames", "Parts".
use Rattle.std.specs.Prelude.{ℕ, ◌+◌, if◌then◌else◌, List, [], ◌∷◌, ◌++◌, length, take, replicate, codes}
use Rattle.std.specs.Prelude.{slice_index_or}
use Rattle.std.specs.List.{flat_map}
use Rattle.byteorder.specs.Endian.{big_bytes}
use Rattle.eve_smallbank.specs.SmallBank.{Request, Balance, DepositChecking, TransactSaving, Amalgamate, WriteCheck}
use Rattle.eve_smallbank.specs.Spelling.{money_text, reply_text}
use Rattle.eve_smallbank.specs.declared.entry.Entry.{Entry}
use Rattle.eve_smallbank.specs.declared.versioned.Versioned.{Versioned}
use Rattle.eve_smallbank.specs.Access.{is_write}
use Rattle.eve_grammar.specs.Trace.{Customer, Asked, Batch, Access, Attempt, Transfer, Step, Choice, ForRollback}
use Rattle.eve_grammar.specs.Trace.{ForCommit, Vote, Sent, Trace}
use Rattle.eve_grammar.specs.Frames.{Frame, OfCustomer, OfBatch, OfReplica, OfAttempt, OfAccess, OfCommit, OfRollback}
use Rattle.eve_grammar.specs.Frames.{OfTransfer, OfVerifier, OfVote, OfSent, End, kind_of, step_frames, section_frames}
use Rattle.eve_grammar.specs.Frames.{verifier_frames, batches_of, sections_of, verifiers_of, frames_of}
use Rattle.eve_grammar.specs.declared.head.Head.{Head}
use Rattle.eve_grammar.specs.declared.restore.Restore.{Restore}
use Rattle.eve_grammar.specs.declared.head.TheConstants.{HEADER_LEN}

-- ---- parts of frames

-- a length of one byte, the name
abbrev pub name_text : List ℕ → List ℕ
name_text name = length name ∷ name

-- a code, the names, the amount
abbrev pub request_text : Request → List ℕ
request_text (Balance name) = 1 ∷ name_text name
request_text (DepositChecking name amount) = 2 ∷ (name_text name ++ money_text amount)
request_text (TransactSaving name amount) = 3 ∷ (name_text name ++ money_text amount)
request_text (Amalgamate from to) = 4 ∷ (name_text from ++ name_text to)
request_text (WriteCheck name amount) = 5 ∷ (name_text name ++ money_text amount)

-- four bytes, eight bytes, the request
abbrev pub asked_text : Asked → List ℕ
asked_text a = big_bytes 4 a.client ++ (big_bytes 8 a.number ++ request_text a.request)

-- 29 bytes
abbrev pub entry_text : Entry → List ℕ
entry_text e =
    big_bytes 4 e.row ++ (big_bytes 1 (if is_write e.kind then 1 else 0) ++ (big_bytes 8 e.version
    ++ (money_text e.seen ++ money_text e.after)))

-- 20 bytes
abbrev pub restore_text : Restore → List ℕ
restore_text r = big_bytes 4 r.row ++ (big_bytes 8 r.version ++ money_text r.value)

-- a version and a value, 16 bytes
abbrev pub versioned_text : Versioned → List ℕ
versioned_text x = big_bytes 8 x.version ++ money_text x.value

-- a vote's choice, and the token, or zeros for a rollback
abbrev pub choice_text : Choice → List ℕ
choice_text ForRollback = 0 ∷ replicate 32 0
choice_text (ForCommit token) = 1 ∷ token

-- ---- frames

-- the body of a Transfer frame: a number, a view, what each row has
abbrev pub transfer_text : Transfer → List ℕ
transfer_text x = big_bytes 4 x.seq ++ (big_bytes 4 x.view ++ flat_map versioned_text x.rows)

-- what stands after the kind and the length
abbrev pub body_text : Frame → List ℕ
body_text (OfCustomer c) = name_text c.name ++ (money_text c.saving ++ money_text c.checking)
body_text (OfBatch number b) =
    big_bytes 4 number ++ (big_bytes 2 (length b.sizes)
    ++ (flat_map (big_bytes 2) b.sizes ++ flat_map asked_text b.requests))
body_text (OfReplica number) = big_bytes 1 number
body_text (OfAttempt a) =
    big_bytes 4 a.seq ++ (big_bytes 4 a.view
    ++ (big_bytes 1 (if a.serial then 1 else 0) ++ (big_bytes 2 (length a.certificate)
    ++ (flat_map (big_bytes 2) a.certificate ++ (flat_map reply_text a.replies ++ a.token)))))
body_text (OfAccess x) =
    big_bytes 1 x.worker ++ (big_bytes 2 x.place ++ (big_bytes 2 x.index
    ++ (big_bytes 1 (length x.entries) ++ flat_map entry_text x.entries)))
body_text (OfCommit c) = big_bytes 4 c.seq ++ (big_bytes 4 c.view ++ c.token)
body_text (OfRollback r) =
    big_bytes 4 r.to ++ (big_bytes 4 r.view ++ (big_bytes 4 (length r.restores) ++ flat_map restore_text r.restores))
body_text (OfTransfer x) = transfer_text x
body_text (OfVerifier number) = big_bytes 1 number
body_text (OfVote v) = big_bytes 4 v.seq ++ (big_bytes 4 v.view ++ choice_text v.choice)
body_text (OfSent s) =
    big_bytes 4 s.client ++ (big_bytes 8 s.number ++ (big_bytes 1 s.replica
    ++ (big_bytes 4 s.seq ++ reply_text s.reply)))
body_text End = []

-- a kind, the body's length, the body
abbrev pub frame_text : Frame → List ℕ
frame_text f = kind_of f ∷ (big_bytes 4 (length (body_text f)) ++ body_text f)

-- one after the other
abbrev pub frames_text : List Frame → List ℕ
frames_text fs = flat_map frame_text fs

-- ---- the whole

-- 32 bytes; `total` is the length of the whole
unfoldable pub head_text : Head → ℕ → List ℕ
head_text h total =
    codes "EVESBK" ++ (big_bytes 2 h.version
    ++ (big_bytes 1 h.replicas ++ (big_bytes 1 h.verifiers ++ (big_bytes 1 h.quorum
    ++ (big_bytes 1 h.window ++ (big_bytes 1 h.workers ++ (big_bytes 3 0
    ++ (big_bytes 4 h.customers ++ (big_bytes 4 h.batches ++ big_bytes 8 total)))))))))

-- the length of the whole, in bytes
unfoldable pub length_of : Trace → ℕ
length_of t = HEADER_LEN + length (frames_text (frames_of t))

-- the header, then the frames
unfoldable pub spelling : Trace → List ℕ
spelling t = head_text t.head (length_of t) ++ frames_text (frames_of t)

-- ---- where the parts stand

-- the bytes of each part: its frames, one after the other
abbrev pub step_text : Step → List ℕ
step_text step = frames_text (step_frames step)

-- of a replica's section
abbrev pub section_text : ℕ × List Step → List ℕ
section_text s = frames_text (section_frames s)

-- of a verifier's part
abbrev pub votes_text : ℕ × List Vote → List ℕ
votes_text v = frames_text (verifier_frames v)

-- of a customer
abbrev pub customer_text : Customer → List ℕ
customer_text c = frame_text (OfCustomer c)

-- of a batch
abbrev pub batch_text : ℕ × Batch → List ℕ
batch_text b = frame_text (OfBatch b.0 b.1)

-- each with its byte offset, the first one's being given
abbrev pub located : {A : Type 0} → (A → List ℕ) → ℕ → List A → List (ℕ × A)
located text at [] = []
located text at (x ∷ xs) = (at, x) ∷ located text (at + length (text x)) xs

-- the frames with their offsets
unfoldable pub frames_at : Trace → List (ℕ × Frame)
frames_at t = located frame_text HEADER_LEN (frames_of t)

-- where the batches begin
abbrev pub batches_start : Trace → ℕ
batches_start t = HEADER_LEN + length (flat_map customer_text t.customers)

-- where the sections begin
abbrev pub sections_start : Trace → ℕ
sections_start t = batches_start t + length (flat_map batch_text (batches_of t))

-- where the section of replica e begins
abbrev pub section_start : Trace → ℕ → ℕ
section_start t e = sections_start t + length (flat_map section_text (take e (sections_of t)))

-- where the votes begin
abbrev pub verifiers_start : Trace → ℕ
verifiers_start t = sections_start t + length (flat_map section_text (sections_of t))

-- where the part of verifier v begins
abbrev pub verifier_start : Trace → ℕ → ℕ
verifier_start t v = verifiers_start t + length (flat_map votes_text (take v (verifiers_of t)))

-- where the replies sent begin
abbrev pub sent_start : Trace → ℕ
sent_start t = verifiers_start t + length (flat_map votes_text (verifiers_of t))

-- the frames of each part with their offsets
unfoldable pub customers_at : Trace → List (ℕ × Customer)
customers_at t = located customer_text HEADER_LEN t.customers

-- each batch with its number
unfoldable pub batches_at : Trace → List (ℕ × (ℕ × Batch))
batches_at t = located batch_text (batches_start t) (batches_of t)

-- what replica e did
abbrev pub steps_of : Trace → ℕ → List Step
steps_of t e = slice_index_or t.sections e []

-- the steps of replica e; each attempt's access frames follow its own
unfoldable pub steps_at : Trace → ℕ → List (ℕ × Step)
steps_at t e = located step_text (section_start t e + length (frame_text (OfReplica e))) (steps_of t e)

-- the access frames of an attempt whose own frame stands at this offset
abbrev pub accesses_at : ℕ → Attempt → List (ℕ × Access)
accesses_at at a = located (λ x. frame_text (OfAccess x)) (at + length (frame_text (OfAttempt a))) a.accesses

-- the votes of verifier v
abbrev pub votes_of : Trace → ℕ → List Vote
votes_of t v = slice_index_or t.verifiers v []

-- the votes of verifier v, after the verifier's own frame
unfoldable pub votes_at : Trace → ℕ → List (ℕ × Vote)
votes_at t v =
    located (λ w. frame_text (OfVote w)) (verifier_start t v + length (frame_text (OfVerifier v))) (votes_of t v)

-- each reply sent
unfoldable pub sent_at : Trace → List (ℕ × Sent)
sent_at t =
    located (λ s. frame_text (OfSent s)) (verifiers_start t + length (flat_map votes_text (verifiers_of t))) t.sent
