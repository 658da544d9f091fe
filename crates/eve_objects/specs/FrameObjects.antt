-- What `show --long --json` prints of the header and of a frame. docs/USING.md, "JSON".
use Rattle.std.specs.Prelude.{ℕ, ℤ, List, [], ◌∷◌, ◌++◌, length, codes, decimal}
use Rattle.std.specs.List.{flat_map, enumerate_from}
use Rattle.json.specs.Token.{Token}
use Rattle.json.specs.Token as token
use Rattle.eve_smallbank.specs.SmallBank.{Request, Balance, DepositChecking, TransactSaving, Amalgamate, WriteCheck}
use Rattle.eve_smallbank.specs.declared.request.Reply.{Reply}
use Rattle.eve_smallbank.specs.declared.request.Reply.TheVariants.{Done, Total, Aborted}
use Rattle.eve_smallbank.specs.declared.entry.Kind.{Kind}
use Rattle.eve_smallbank.specs.declared.entry.Kind.TheVariants.{Read, Write}
use Rattle.eve_smallbank.specs.declared.entry.Entry.{Entry}
use Rattle.eve_smallbank.specs.declared.versioned.Versioned.{Versioned}
use Rattle.eve_grammar.specs.Trace.{Asked, Customer, Batch, Access, Attempt, Commit, Rollback, Transfer, Choice}
use Rattle.eve_grammar.specs.Trace.{ForRollback, ForCommit, Vote, Sent}
use Rattle.eve_grammar.specs.Frames.{Frame, kind_of, OfCustomer, OfBatch, OfReplica, OfAttempt, OfAccess, OfCommit}
use Rattle.eve_grammar.specs.Frames.{OfRollback, OfTransfer, OfVerifier, OfVote, OfSent, End}
use Rattle.eve_grammar.specs.Spelling.{body_text}
use Rattle.eve_grammar.specs.declared.head.Head.{Head}
use Rattle.eve_grammar.specs.declared.restore.Restore.{Restore}
use Rattle.eve_frames.specs.Kinds.{kind_name}
use Rattle.eve_lines.specs.Words.{abort_words, kind_word, mode_words}
use Rattle.eve_objects.specs.Members.{array_member, number_member, object, object_line, signed_member, string_member}
use Rattle.eve_objects.specs.Members.{text_of, token_member}

-- ---- replies, requests, rows

-- `"reply":"Done"`, `"reply":"Total","total":2000`, or why nothing changed
abbrev pub reply_members : Reply → List Token
reply_members Done = string_member (codes "reply") (codes "Done")
reply_members (Total total) = string_member (codes "reply") (codes "Total") ++ signed_member (codes "total") total
reply_members (Aborted why) = string_member (codes "reply") (abort_words why)

-- what is asked for, as a workload has it
abbrev pub request_name : Request → List ℕ
request_name (Balance name) = codes "balance"
request_name (DepositChecking name amount) = codes "deposit"
request_name (TransactSaving name amount) = codes "transact"
request_name (Amalgamate from to) = codes "amalgamate"
request_name (WriteCheck name amount) = codes "check"

-- `"name":"ann","amount":500`
abbrev pub move_members : List ℕ → ℤ → List Token
move_members name amount = string_member (codes "name") (text_of name) ++ signed_member (codes "amount") amount

-- the names, and the amount
abbrev pub operand_members : Request → List Token
operand_members (Balance name) = string_member (codes "name") (text_of name)
operand_members (DepositChecking name amount) = move_members name amount
operand_members (TransactSaving name amount) = move_members name amount
operand_members (Amalgamate from to) =
    string_member (codes "from") (text_of from) ++ string_member (codes "to") (text_of to)
operand_members (WriteCheck name amount) = move_members name amount

-- `"request":"deposit","client":7,"number":1,"name":"ann","amount":500`
abbrev pub asked_members : Asked → List Token
asked_members a =
    string_member (codes "request") (request_name a.request) ++ (number_member (codes "client") a.client
    ++ (number_member (codes "number") a.number ++ operand_members a.request))

-- `"row":1,"version":1,"value":100`
abbrev pub row_members : ℕ → ℕ → ℤ → List Token
row_members row version value =
    number_member (codes "row") row ++ (number_member (codes "version") version ++ signed_member (codes "value") value)

-- what a write left
abbrev pub after_members : Kind → ℤ → List Token
after_members Read after = []
after_members Write after = signed_member (codes "to") after

-- `"kind":"write","row":1,"version":0,"value":0,"to":500`
abbrev pub entry_members : Entry → List Token
entry_members e =
    string_member (codes "kind") (kind_word e.kind) ++ (row_members e.row e.version e.seen
    ++ after_members e.kind e.after)

-- ---- items of arrays

-- a number
abbrev pub index_item : ℕ → List Token
index_item index = token.number (decimal index) ∷ []

abbrev pub reply_item : Reply → List Token
reply_item reply = object (reply_members reply)

abbrev pub asked_item : Asked → List Token
asked_item a = object (asked_members a)

abbrev pub entry_item : Entry → List Token
entry_item e = object (entry_members e)

abbrev pub restore_item : Restore → List Token
restore_item r = object (row_members r.row r.version r.value)

-- of a row with its number
abbrev pub row_item : ℕ × Versioned → List Token
row_item r = object (row_members r.0 r.1.version r.1.value)

-- ---- frames

-- `"batch":1,"view":0`
abbrev pub batch_and_view_members : ℕ → ℕ → List Token
batch_and_view_members seq view = number_member (codes "batch") seq ++ number_member (codes "view") view

-- `"customer":0,"name":"ann","saving":0,"checking":0`, of the customer with this number
unfoldable pub customer_members : ℕ → Customer → List Token
customer_members number c =
    number_member (codes "customer") number ++ (string_member (codes "name") (text_of c.name)
    ++ (signed_member (codes "saving") c.saving ++ signed_member (codes "checking") c.checking))

-- `"batch":1,"sizes":[1,2],"requests":[..]`
unfoldable pub batch_members : ℕ → Batch → List Token
batch_members number b =
    number_member (codes "batch") number ++ (array_member (codes "sizes") (flat_map index_item b.sizes)
    ++ array_member (codes "requests") (flat_map asked_item b.requests))

-- `"batch":1,"view":0,"mode":"parallel","order":[1,0],"replies":[..],"token":".."`
unfoldable pub attempt_members : Attempt → List Token
attempt_members a =
    batch_and_view_members a.seq a.view ++ (string_member (codes "mode") (mode_words a.serial)
    ++ (array_member (codes "order") (flat_map index_item a.certificate)
    ++ (array_member (codes "replies") (flat_map reply_item a.replies) ++ token_member (codes "token") a.token)))

-- `"worker":0,"place":0,"request":0,"entries":[..]`
unfoldable pub access_members : Access → List Token
access_members x =
    number_member (codes "worker") x.worker ++ (number_member (codes "place") x.place
    ++ (number_member (codes "request") x.index
    ++ array_member (codes "entries") (flat_map entry_item x.entries)))

-- `"batch":1,"view":0,"token":".."`
unfoldable pub commit_members : Commit → List Token
commit_members c = batch_and_view_members c.seq c.view ++ token_member (codes "token") c.token

-- `"to":1,"view":1,"restores":[..]`
unfoldable pub rollback_members : Rollback → List Token
rollback_members r =
    number_member (codes "to") r.to ++ (number_member (codes "view") r.view
    ++ array_member (codes "restores") (flat_map restore_item r.restores))

-- `"batch":1,"view":0,"rows":[..]`
unfoldable pub transfer_members : Transfer → List Token
transfer_members x =
    batch_and_view_members x.seq x.view ++ array_member (codes "rows") (flat_map row_item (enumerate_from 0 x.rows))

-- `"choice":"commit","token":".."`, `"choice":"rollback"`
abbrev pub choice_members : Choice → List Token
choice_members ForRollback = string_member (codes "choice") (codes "rollback")
choice_members (ForCommit token) =
    string_member (codes "choice") (codes "commit") ++ token_member (codes "token") token

-- `"batch":1,"view":0`, and what the vote is for
unfoldable pub vote_members : Vote → List Token
vote_members v = batch_and_view_members v.seq v.view ++ choice_members v.choice

-- `"client":7,"number":1,"replica":0,"batch":1`, and the reply
unfoldable pub sent_members : Sent → List Token
sent_members s =
    number_member (codes "client") s.client ++ (number_member (codes "number") s.number
    ++ (number_member (codes "replica") s.replica ++ (number_member (codes "batch") s.seq
    ++ reply_members s.reply)))

-- what a frame says, which is frame number `number` of its trace, from 0
abbrev pub frame_members : ℕ → Frame → List Token
frame_members number (OfCustomer c) = customer_members number c
frame_members number (OfBatch seq b) = batch_members seq b
frame_members number (OfReplica replica) = number_member (codes "replica") replica
frame_members number (OfAttempt a) = attempt_members a
frame_members number (OfAccess x) = access_members x
frame_members number (OfCommit c) = commit_members c
frame_members number (OfRollback r) = rollback_members r
frame_members number (OfTransfer x) = transfer_members x
frame_members number (OfVerifier verifier) = number_member (codes "verifier") verifier
frame_members number (OfVote v) = vote_members v
frame_members number (OfSent s) = sent_members s
frame_members number End = []

-- ---- lines

-- `"offset":120,"kind":"Batch","bytes":61`: what `show` prints
abbrev pub show_members : ℕ → List ℕ → ℕ → List Token
show_members offset name body_len =
    number_member (codes "offset") offset ++ (string_member (codes "kind") name
    ++ number_member (codes "bytes") body_len)

-- `"version":1,"replicas":2,"verifiers":3,"quorum":2`
unfoldable pub party_members : Head → List Token
party_members h =
    number_member (codes "version") h.version ++ (number_member (codes "replicas") h.replicas
    ++ (number_member (codes "verifiers") h.verifiers ++ number_member (codes "quorum") h.quorum))

-- `"window":1,"workers":2,"customers":2,"batches":3`
unfoldable pub extent_members : Head → List Token
extent_members h =
    number_member (codes "window") h.window ++ (number_member (codes "workers") h.workers
    ++ (number_member (codes "customers") h.customers ++ number_member (codes "batches") h.batches))

-- the line of the header
unfoldable pub header_object : Head → List ℕ
header_object h = object_line (show_members 0 (codes "Header") 32 ++ (party_members h ++ extent_members h))

-- the line of a frame, which has this number, from 0, and begins at this byte
unfoldable pub frame_object : ℕ → ℕ → Frame → List ℕ
frame_object number at f =
    object_line (number_member (codes "frame") number ++ (show_members at (kind_name (kind_of f)) (length (body_text f))
    ++ frame_members number f))
