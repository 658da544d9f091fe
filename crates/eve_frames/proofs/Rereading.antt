-- Public: other crates cite these lemmas. What fits a trace's own limits is spelled by a frame that says it.
use Rattle.std.proofs.Common.{◌≡◌, ℕ, ◌^◌, ◌<◌, ◌≤◌, Bool, true, ◌&&◌, ltb, leb, List, [], ◌∷◌, length, drop, Option}
use Rattle.std.proofs.Common.{Some, is_some, unwrap_or, refl, sym, ap, subst, eqb, arith}
use Rattle.std.specs.Prelude.{IsTrue}
use Rattle.std.specs.List.{list_all}
use Rattle.std.proofs.lemmas.Bool.{eqb-true, ltb-true, lt-ltb, leb-true, le-leb, and_parts, and_from}
use Rattle.eve_grammar.specs.Trace.{Customer, Batch, Attempt, Access, Commit, Rollback, Transfer, Vote, Sent}
use Rattle.eve_grammar.specs.Frames.{Frame, OfCustomer, OfBatch, OfAttempt, OfAccess, OfCommit, OfRollback, OfVote}
use Rattle.eve_grammar.specs.Frames.{OfTransfer, OfSent, without_accesses}
use Rattle.eve_grammar.specs.Limits.{is_number, is_between, is_customer, is_batch, is_attempt, is_entry, is_access}
use Rattle.eve_grammar.specs.Limits.{is_commit, is_restore, is_rising, is_rollback, is_choice, is_vote, is_reply}
use Rattle.eve_grammar.specs.Limits.{is_versioned, are_no_debts, is_transfer, is_sent}
use Rattle.eve_grammar.specs.Spelling.{body_text, frame_text, versioned_text, transfer_text}
use Rattle.eve_grammar.specs.Readers.{customer_of, batch_of, attempt_of, access_of, commit_of, rollback_of, vote_of}
use Rattle.eve_grammar.specs.Readers.{transfer_of, sent_of}
use Rattle.eve_grammar.proofs.BodyCodecs.{Exact-customer, Exact-batch, Exact-attempt, Exact-access, Exact-commit}
use Rattle.eve_grammar.proofs.BodyCodecs.{Exact-rollback, Exact-transfer, Exact-vote, Exact-sent}
use Rattle.eve_grammar.proofs.PartCodecs.{versioned_length}
use Rattle.eve_grammar.proofs.Scans.{text_length}
use Rattle.eve_smallbank.specs.declared.entry.Entry.{Entry}
use Rattle.eve_grammar.specs.declared.limits.TheConstants.{MOST_ROWS, MOST_REPLICAS, MOST_BATCHES}
use Rattle.eve_grammar.specs.declared.restore.Restore.{Restore}
use Rattle.eve_frames.specs.Views.{has_customer_body, has_batch_body}
use Rattle.eve_frames.specs.Views.{has_attempt_body, has_access_body, has_commit_body, has_rollback_body, has_vote_body}
use Rattle.eve_frames.specs.Views.{has_sent_body, customer_in, batch_in, attempt_in, access_in, commit_in, rollback_in}
use Rattle.eve_frames.specs.Views.{state_rows_in, has_transfer_body, transfer_in, vote_in, sent_in, Says}

-- what is read of a body is what its frame says
says : {A : Type 0} (read : List ℕ → Option A) (none x : A) (f : Frame) → read (body_text f) ≡ Some x
    → IsTrue (is_some (read (drop 5 (frame_text f)))) × (unwrap_or (read (drop 5 (frame_text f))) none ≡ x)
says {A = A} read none x f e = (ap is_some e, ap (λ (o : Option A). unwrap_or o none) e)

-- ---- at the largest limits

all_more : {A : Type 0} (p q : A → Bool) → ((x : A) → IsTrue (p x) → IsTrue (q x)) → (xs : List A)
    → IsTrue (list_all p xs) → IsTrue (list_all q xs)
all_more p q more [] fits = refl
all_more p q more (x ∷ xs) fits =
    let h = and_parts (p x) (list_all p xs) fits in
    and_from (q x) (list_all q xs) (more x h.0) (all_more p q more xs h.1)

below_more : (n few most : ℕ) → few ≤ most → IsTrue (ltb n few) → IsTrue (ltb n most)
below_more n few most le fits = let h = ltb-true n few fits in lt-ltb n most (omega arith)

between_more : (n few most : ℕ) → few ≤ most → IsTrue (is_between 1 few n) → IsTrue (is_between 1 most n)
between_more n few most le fits =
    let p = and_parts (leb 1 n) (leb n few) fits in
    let h = leb-true n few p.1 in
    and_from (leb 1 n) (leb n most) p.0 (le-leb n most (omega arith))

entry_more : (rows most : ℕ) → rows ≤ most → (e : Entry) → IsTrue (is_entry rows e) → IsTrue (is_entry most e)
entry_more rows most le e fits = let p = and_parts (ltb e.row rows) _ fits in and_from (ltb e.row most) _
    (below_more e.row rows most le p.0) p.1

access_more : (rows most : ℕ) → rows ≤ most → (x : Access) → IsTrue (is_access rows x) → IsTrue (is_access most x)
access_more rows most le x fits =
    let a = and_parts (is_number 1 x.worker) _ fits in
    let b = and_parts (is_number 2 x.place) _ a.1 in
    let c = and_parts (is_number 2 x.index) _ b.1 in
    let d = and_parts (leb (length x.entries) 3) (list_all (is_entry rows) x.entries) c.1 in
    and_from (is_number 1 x.worker) _ a.0 (and_from (is_number 2 x.place) _ b.0 (and_from (is_number 2 x.index) _ c.0
    (and_from (leb (length x.entries) 3) _ d.0
    (all_more (is_entry rows) (is_entry most) (entry_more rows most le) x.entries d.1))))

restore_more : (rows most : ℕ) → rows ≤ most → (r : Restore) → IsTrue (is_restore rows r) → IsTrue (is_restore most r)
restore_more rows most le r fits = let p = and_parts (ltb r.row rows) _ fits in and_from (ltb r.row most) _
    (below_more r.row rows most le p.0) p.1

rollback_more : (rows most : ℕ) → rows ≤ most → (r : Rollback) → IsTrue (is_rollback rows r)
    → IsTrue (is_rollback most r)
rollback_more rows most le r fits =
    let a = and_parts (is_number 4 r.to) _ fits in
    let b = and_parts (is_number 4 r.view) _ a.1 in
    let c = and_parts (is_rising r.restores) (list_all (is_restore rows) r.restores) b.1 in
    and_from (is_number 4 r.to) _ a.0 (and_from (is_number 4 r.view) _ b.0
    (and_from (is_rising r.restores) _ c.0
    (all_more (is_restore rows) (is_restore most) (restore_more rows most le) r.restores c.1)))

vote_more : (few most : ℕ) → few ≤ most → (v : Vote) → IsTrue (is_vote few v) → IsTrue (is_vote most v)
vote_more few most le v fits =
    let p = and_parts (is_between 1 few v.seq) (is_number 4 v.view && is_choice v.choice) fits in
    and_from (is_between 1 most v.seq) _ (between_more v.seq few most le p.0) p.1

sent_more : (replicas batches : ℕ) → replicas ≤ MOST_REPLICAS → batches ≤ MOST_BATCHES → (s : Sent)
    → IsTrue (is_sent replicas batches s) → IsTrue (is_sent MOST_REPLICAS MOST_BATCHES s)
sent_more replicas batches r b s fits =
    let p = and_parts (is_number 4 s.client) _ fits in
    let q = and_parts (is_number 8 s.number) _ p.1 in
    let t = and_parts (ltb s.replica replicas) _ q.1 in
    let u = and_parts (is_between 1 batches s.seq) (is_reply s.reply) t.1 in
    and_from (is_number 4 s.client) _ p.0
    (and_from (is_number 8 s.number) _ q.0
    (and_from (ltb s.replica MOST_REPLICAS) _ (below_more s.replica replicas MOST_REPLICAS r t.0)
    (and_from (is_between 1 MOST_BATCHES s.seq) _ (between_more s.seq batches MOST_BATCHES b u.0) u.1)))

-- ---- kind by kind

pub customer_again : (c : Customer) → IsTrue (is_customer c)
    → Says has_customer_body customer_in (frame_text (OfCustomer c)) c
unfolding customer_in
customer_again c fits = says customer_of _ c (OfCustomer c) (Exact-customer.again c fits)

pub batch_again : (number : ℕ) (b : Batch) → number < 2 ^ 32 → IsTrue (is_batch b)
    → Says has_batch_body batch_in (frame_text (OfBatch number b)) (number, b)
unfolding batch_in
batch_again number b lt fits = says batch_of _ (number, b) (OfBatch number b)
    (Exact-batch.again (number, b)
    (and_from (is_number 4 number) (is_batch b) (lt-ltb number (256 ^ 4) (omega arith)) fits))

pub attempt_again : (a : Attempt) → IsTrue (is_attempt a) → Says has_attempt_body attempt_in (frame_text (OfAttempt a))
    (without_accesses a)
unfolding attempt_in
attempt_again a fits = says attempt_of _ (without_accesses a) (OfAttempt a)
    (Exact-attempt.again (without_accesses a) (and_from (is_attempt a) true fits refl))

pub access_again : (rows : ℕ) (x : Access) → IsTrue (is_access rows x) → rows ≤ MOST_ROWS
    → Says has_access_body access_in (frame_text (OfAccess x)) x
unfolding access_in
access_again rows x fits le = says (access_of MOST_ROWS) _ x (OfAccess x)
    ((Exact-access MOST_ROWS (omega arith)).again x (access_more rows MOST_ROWS le x fits))

pub commit_again : (c : Commit) → IsTrue (is_commit c) → Says has_commit_body commit_in (frame_text (OfCommit c)) c
unfolding commit_in
commit_again c fits = says commit_of _ c (OfCommit c) (Exact-commit.again c fits)

pub rollback_again : (rows : ℕ) (r : Rollback) → IsTrue (is_rollback rows r) → rows ≤ MOST_ROWS
    → Says has_rollback_body rollback_in (frame_text (OfRollback r)) r
unfolding rollback_in
rollback_again rows r fits le = says (rollback_of MOST_ROWS) _ r (OfRollback r)
    ((Exact-rollback MOST_ROWS (omega arith)).again r (rollback_more rows MOST_ROWS le r fits))

-- the rows of a Transfer are told by its length
transferred_count : (rows : ℕ) (x : Transfer) → IsTrue (is_transfer rows x) → state_rows_in (frame_text (OfTransfer x))
    ≡ rows
transferred_count rows x fits =
    let a = and_parts (is_number 4 x.seq) _ fits in
    let b = and_parts (is_number 4 x.view) _ a.1 in
    let c = and_parts (are_no_debts 0 x.rows) (eqb (length x.rows) rows && list_all is_versioned x.rows) b.1 in
    let d = and_parts (eqb (length x.rows) rows) (list_all is_versioned x.rows) c.1 in
    let many : length x.rows ≡ rows = eqb-true (length x.rows) rows d.0 in
    omega (arith, many, text_length 16 versioned_text versioned_length x.rows)

pub transfer_again : (rows : ℕ) (x : Transfer) → IsTrue (is_transfer rows x)
    → Says has_transfer_body transfer_in (frame_text (OfTransfer x)) x
unfolding transfer_in
transfer_again rows x fits =
    let read : transfer_of (state_rows_in (frame_text (OfTransfer x))) (transfer_text x) ≡ Some x =
    subst (λ (n : ℕ). transfer_of n (transfer_text x) ≡ Some x) (sym (transferred_count rows x fits))
    ((Exact-transfer rows).again x fits) in
    (ap is_some read, ap (λ (o : Option Transfer). unwrap_or o (record { seq = 0; view = 0; rows = [] })) read)

pub vote_again : (batches : ℕ) (v : Vote) → IsTrue (is_vote batches v) → batches ≤ MOST_BATCHES
    → Says has_vote_body vote_in (frame_text (OfVote v)) v
unfolding vote_in
vote_again batches v fits le = says (vote_of MOST_BATCHES) _ v (OfVote v)
    ((Exact-vote MOST_BATCHES (omega arith)).again v (vote_more batches MOST_BATCHES le v fits))

pub sent_again : (replicas batches : ℕ) (s : Sent) → IsTrue (is_sent replicas batches s) → replicas ≤ MOST_REPLICAS
    → batches ≤ MOST_BATCHES → Says has_sent_body sent_in (frame_text (OfSent s)) s
unfolding sent_in
sent_again replicas batches s fits r b =
    says (sent_of MOST_REPLICAS MOST_BATCHES) _ s (OfSent s)
    ((Exact-sent MOST_REPLICAS MOST_BATCHES (omega arith) (omega arith)).again s
    (sent_more replicas batches r b s fits))
