-- What a frame says in words, behind what `show` prints of it. docs/USING.md, "What `show --long` prints".
use Rattle.std.specs.Prelude.{ℕ, false, List, [], ◌++◌, map, codes, decimal}
use Rattle.std.specs.List.{flat_map, enumerate_from}
use Rattle.std.specs.Fmt.{signed_decimal}
use Rattle.eve_grammar.specs.Trace.{Customer, Batch, Access, Attempt, Commit, Rollback, Transfer, Choice, ForRollback}
use Rattle.eve_grammar.specs.Trace.{ForCommit, Vote, Sent}
use Rattle.eve_grammar.specs.Frames.{Frame, OfCustomer, OfBatch, OfReplica, OfAttempt, OfAccess, OfCommit, OfRollback}
use Rattle.eve_grammar.specs.Frames.{OfTransfer, OfVerifier, OfVote, OfSent, End}
use Rattle.eve_grammar.specs.declared.head.Head.{Head}
use Rattle.eve_grammar.specs.declared.restore.Restore.{Restore}
use Rattle.eve_lines.specs.Words.{name_words, token_words, mode_words, list_words, list_or_none, reply_words}
use Rattle.eve_lines.specs.Words.{asked_words, row_words, entry_words}

-- the header: ` version 1 replicas 2 verifiers 3 quorum 2 window 1 workers 2 customers 2 batches 3`
unfoldable pub header_words : Head → List ℕ
header_words h =
    codes " version " ++ (decimal h.version ++ (codes " replicas " ++ (decimal h.replicas
    ++ (codes " verifiers " ++ (decimal h.verifiers ++ (codes " quorum " ++ (decimal h.quorum
    ++ (codes " window " ++ (decimal h.window ++ (codes " workers " ++ (decimal h.workers
    ++ (codes " customers " ++ (decimal h.customers ++ (codes " batches " ++ decimal h.batches))))))))))))))

-- ` saving 0 checking 0`
unfoldable pub balance_words : Customer → List ℕ
balance_words c = codes " saving " ++ (signed_decimal c.saving ++ (codes " checking " ++ signed_decimal c.checking))

-- ` #0 ann saving 0 checking 0`, of the customer with this number
unfoldable pub customer_words : ℕ → Customer → List ℕ
customer_words number c =
    codes " #" ++ (decimal number ++ (codes " " ++ (name_words c.name ++ balance_words c)))

-- a number in a list, such as ` 2`
abbrev pub index_words : ℕ → List ℕ
index_words index = codes " " ++ decimal index

-- ` batch 1 sizes 1 2: deposit 7 1 ann 500; ..`
unfoldable pub batch_words : ℕ → Batch → List ℕ
batch_words number b =
    (codes " batch " ++ (decimal number ++ codes " sizes"))
    ++ (flat_map index_words b.sizes ++ list_words false (map asked_words b.requests))

-- ` batch 1 view 0`
abbrev pub batch_and_view : ℕ → ℕ → List ℕ
batch_and_view seq view = codes " batch " ++ (decimal seq ++ (codes " view " ++ decimal view))

-- ` batch 1 view 0 parallel order 1 0: Done; Total 2000 token ..`
unfoldable pub attempt_words : Attempt → List ℕ
attempt_words a =
    (batch_and_view a.seq a.view ++ (codes " " ++ (mode_words a.serial ++ codes " order")))
    ++ (flat_map index_words a.certificate ++ (list_words false (map reply_words a.replies)
    ++ (codes " token " ++ token_words a.token)))

-- ` worker 0 place 0 request 0: read row 0 version 0 value 0; ..`
unfoldable pub access_words : Access → List ℕ
access_words x =
    codes " worker " ++ (decimal x.worker ++ (codes " place " ++ (decimal x.place ++ (codes " request "
    ++ (decimal x.index ++ list_or_none (map entry_words x.entries))))))

-- ` batch 1 view 0 token ..`
unfoldable pub commit_words : Commit → List ℕ
commit_words c = batch_and_view c.seq c.view ++ (codes " token " ++ token_words c.token)

-- what a rollback restores of a row
abbrev pub restore_words : Restore → List ℕ
restore_words r = row_words (r.row, record { version = r.version; value = r.value })

-- ` to 1 view 1: row 1 version 1 value 100; ..`
unfoldable pub rollback_words : Rollback → List ℕ
rollback_words r =
    codes " to " ++ (decimal r.to ++ (codes " view " ++ (decimal r.view
    ++ list_or_none (map restore_words r.restores))))

-- ` batch 1 view 0: row 0 version 1 value 100; ..`
unfoldable pub transfer_words : Transfer → List ℕ
transfer_words x = batch_and_view x.seq x.view ++ list_words false (map row_words (enumerate_from 0 x.rows))

-- what a vote is for
abbrev pub choice_words : Choice → List ℕ
choice_words ForRollback = codes " rollback"
choice_words (ForCommit token) = codes " commit " ++ token_words token

-- ` batch 1 view 0 commit ..`, ` batch 1 view 0 rollback`
unfoldable pub vote_words : Vote → List ℕ
vote_words v = batch_and_view v.seq v.view ++ choice_words v.choice

-- ` client 7 number 1 replica 0 batch 1 reply Done`
unfoldable pub sent_words : Sent → List ℕ
sent_words s =
    codes " client " ++ (decimal s.client ++ (codes " number " ++ (decimal s.number ++ (codes " replica "
    ++ (decimal s.replica ++ (codes " batch " ++ (decimal s.seq ++ (codes " reply " ++ reply_words s.reply))))))))

-- what a frame says, which is frame number `number` of its trace, from 0
abbrev pub frame_words : ℕ → Frame → List ℕ
frame_words number (OfCustomer c) = customer_words number c
frame_words number (OfBatch seq b) = batch_words seq b
frame_words number (OfReplica replica) = codes " replica " ++ decimal replica
frame_words number (OfAttempt a) = attempt_words a
frame_words number (OfAccess x) = access_words x
frame_words number (OfCommit c) = commit_words c
frame_words number (OfRollback r) = rollback_words r
frame_words number (OfTransfer x) = transfer_words x
frame_words number (OfVerifier verifier) = codes " verifier " ++ decimal verifier
frame_words number (OfVote v) = vote_words v
frame_words number (OfSent s) = sent_words s
frame_words number End = []
