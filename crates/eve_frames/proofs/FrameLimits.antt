-- What a frame says fits the format's limits.
use Rattle.std.proofs.Common.{◌≡◌, ℕ, Bool, eqb, List, [], length, drop, Option, is_some, unwrap_or, arith}
use Rattle.std.specs.Prelude.{IsTrue}
use Rattle.std.proofs.lemmas.Bool.{eqb-true, and_parts}
use Rattle.std.proofs.lemmas.List.{nil_from_length}
use Rattle.eve_grammar.specs.Limits.{is_number, is_customer, is_batch, is_attempt, is_access, is_commit, is_rollback}
use Rattle.eve_grammar.specs.Limits.{is_transfer, is_vote, is_sent}
use Rattle.eve_grammar.specs.Readers.{customer_of, batch_of, attempt_of, access_of, commit_of, rollback_of, vote_of}
use Rattle.eve_grammar.specs.Readers.{transfer_of, sent_of}
use Rattle.eve_grammar.proofs.Codec.{IsBytes-drop}
use Rattle.eve_grammar.proofs.BodyCodecs.{Exact, Exact-customer, Exact-batch, Exact-attempt, Exact-access, Exact-commit}
use Rattle.eve_grammar.proofs.BodyCodecs.{Exact-rollback, Exact-transfer, Exact-vote, Exact-sent}
use Rattle.eve_grammar.specs.declared.limits.TheConstants.{MOST_ROWS, MOST_REPLICAS, MOST_BATCHES}
use Rattle.eve_frames.specs.Views.{has_customer_body, has_batch_body}
use Rattle.eve_frames.specs.Views.{has_attempt_body, has_access_body, has_commit_body, has_rollback_body, has_vote_body}
use Rattle.eve_frames.specs.Views.{has_sent_body, customer_in, batch_in, attempt_in, access_in, commit_in, rollback_in}
use Rattle.eve_grammar.specs.Places.{IsBytes}
use Rattle.eve_frames.specs.Views.{state_rows_in, has_transfer_body, transfer_in, vote_in, sent_in}
use Rattle.eve_frames.proofs.Places.{found}

fits : {A : Type 0} (text : A → List ℕ) (test : A → Bool) (read : List ℕ → Option A) → Exact text test read
    → (bytes : List ℕ) (none : A) → IsBytes bytes → IsTrue (is_some (read (drop 5 bytes)))
    → IsTrue (test (unwrap_or (read (drop 5 bytes)) none))
fits text test read exact bytes none whole there =
    (exact.takes (drop 5 bytes) (unwrap_or (read (drop 5 bytes)) none) (IsBytes-drop 5 bytes whole)
    (found (read (drop 5 bytes)) none there)).1

pub customer_fits : (bytes : List ℕ) → IsBytes bytes → IsTrue (has_customer_body bytes)
    → IsTrue (is_customer (customer_in bytes))
unfolding customer_in
customer_fits bytes whole there = fits _ is_customer customer_of Exact-customer bytes _ whole there

pub batch_fits : (bytes : List ℕ) → IsBytes bytes → IsTrue (has_batch_body bytes)
    → IsTrue (is_number 4 (batch_in bytes).0) × IsTrue (is_batch (batch_in bytes).1)
unfolding batch_in
batch_fits bytes whole there = and_parts (is_number 4 (batch_in bytes).0) (is_batch (batch_in bytes).1)
    (fits _ _ batch_of Exact-batch bytes _ whole there)

pub attempt_fits : (bytes : List ℕ) → IsBytes bytes → IsTrue (has_attempt_body bytes)
    → IsTrue (is_attempt (attempt_in bytes)) × ((attempt_in bytes).accesses ≡ [])
unfolding attempt_in
attempt_fits bytes whole there =
    let p = and_parts (is_attempt (attempt_in bytes)) (eqb (length (attempt_in bytes).accesses) 0)
    (fits _ _ attempt_of Exact-attempt bytes _ whole there) in
    (p.0, nil_from_length (attempt_in bytes).accesses (eqb-true (length (attempt_in bytes).accesses) 0 p.1))

pub access_fits : (bytes : List ℕ) → IsBytes bytes → IsTrue (has_access_body bytes)
    → IsTrue (is_access MOST_ROWS (access_in bytes))
unfolding access_in
access_fits bytes whole there = fits _ (is_access MOST_ROWS) (access_of MOST_ROWS)
    (Exact-access MOST_ROWS (omega arith)) bytes _ whole there

pub commit_fits : (bytes : List ℕ) → IsBytes bytes → IsTrue (has_commit_body bytes)
    → IsTrue (is_commit (commit_in bytes))
unfolding commit_in
commit_fits bytes whole there = fits _ is_commit commit_of Exact-commit bytes _ whole there

pub rollback_fits : (bytes : List ℕ) → IsBytes bytes → IsTrue (has_rollback_body bytes)
    → IsTrue (is_rollback MOST_ROWS (rollback_in bytes))
unfolding rollback_in
rollback_fits bytes whole there = fits _ (is_rollback MOST_ROWS) (rollback_of MOST_ROWS)
    (Exact-rollback MOST_ROWS (omega arith)) bytes _ whole there

pub transfer_fits : (bytes : List ℕ) → IsBytes bytes → IsTrue (has_transfer_body bytes)
    → IsTrue (is_transfer (state_rows_in bytes) (transfer_in bytes))
unfolding transfer_in
transfer_fits bytes whole there = fits _ (is_transfer (state_rows_in bytes)) (transfer_of (state_rows_in bytes))
    (Exact-transfer (state_rows_in bytes)) bytes _ whole there

pub vote_fits : (bytes : List ℕ) → IsBytes bytes → IsTrue (has_vote_body bytes)
    → IsTrue (is_vote MOST_BATCHES (vote_in bytes))
unfolding vote_in
vote_fits bytes whole there = fits _ (is_vote MOST_BATCHES) (vote_of MOST_BATCHES)
    (Exact-vote MOST_BATCHES (omega arith)) bytes _ whole there

pub sent_fits : (bytes : List ℕ) → IsBytes bytes → IsTrue (has_sent_body bytes)
    → IsTrue (is_sent MOST_REPLICAS MOST_BATCHES (sent_in bytes))
unfolding sent_in
sent_fits bytes whole there = fits _ (is_sent MOST_REPLICAS MOST_BATCHES) (sent_of MOST_REPLICAS MOST_BATCHES)
    (Exact-sent MOST_REPLICAS MOST_BATCHES (omega arith) (omega arith)) bytes _ whole there
