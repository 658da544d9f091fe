-- What frames say in words, read again from their bytes.
use Rattle.std.proofs.Common.{◌≡◌, ℕ, Bool, true, false, eqb, leb}
use Rattle.std.proofs.Common.{List, length, Some, is_some, refl, ap, sym}
use Rattle.std.proofs.Common.{◌∙◌, arith}
use Rattle.std.specs.Prelude.{IsTrue, codes}
use Rattle.std.proofs.lemmas.Bool.{and_parts, and_from, eqb-true, le-leb, leb-true}
use Rattle.std.proofs.lemmas.List.{nil_from_length, take_all}
use Rattle.hex.specs.Hex.{encode_lower}
use Rattle.eve_accounts.specs.Names.{is_name}
use Rattle.eve_grammar.specs.Trace.{Batch}
use Rattle.eve_grammar.specs.Frames.{Frame, OfCustomer, OfBatch, OfReplica, OfAttempt, OfAccess, OfCommit, OfRollback}
use Rattle.eve_grammar.specs.Frames.{OfTransfer, OfVerifier, OfVote, OfSent, End, without_accesses}
use Rattle.eve_grammar.specs.Limits.{FitsAt, is_attempt, is_head, is_token, row_count}
use Rattle.eve_grammar.specs.Readers.{transfer_of}
use Rattle.eve_grammar.specs.Spelling.{frame_text}
use Rattle.eve_grammar.specs.declared.head.Head.{Head}
use Rattle.eve_grammar.specs.declared.place.Place.{Place}
use Rattle.eve_grammar.proofs.BodyCodecs.{Exact-transfer}
use Rattle.eve_grammar.proofs.HeadLimits.{few_customers, head_has_limits}
use Rattle.eve_frames.specs.Views.{body_in, state_rows_in}
use Rattle.eve_frames.proofs.Rereading.{access_again, attempt_again, commit_again, customer_again, rollback_again}
use Rattle.eve_frames.proofs.Rereading.{sent_again, transfer_again, vote_again}
use Rattle.eve_lines.specs.FrameLines.{access_words, attempt_words, batch_words, commit_words, customer_words}
use Rattle.eve_lines.specs.FrameLines.{frame_words, rollback_words, sent_words, transfer_words, vote_words}
use Rattle.eve_lines.specs.Rest.{number_words, short_words, words_if, words_in, words_of_kind}
use Rattle.eve_lines.specs.Words.{name_words, token_words}
use Rattle.eve_lines.specs.declared.line.TheConstants.{LONGEST_NAME, TOKEN_LEN}
use Rattle.eve_lines.proofs.BodiesReread.{RowsAreTold, batch_says, replica_read, verifier_read}

-- where the body is right, the words are those of what it says
when : (right : Bool) (words decoded : List ℕ) → right ≡ true → words ≡ decoded → words_if right words ≡ decoded
when true words decoded e same = same
when false words decoded e same = absurd cc

pub says : RowsAreTold → (h : Head) (p : Place) (f : Frame) (number : ℕ) → IsTrue (is_head h) → FitsAt h p f
    → words_in number (frame_text f) ≡ frame_words number f
unfolding words_of_kind short_words
says told h p (OfCustomer c) number right fits =
    let a = customer_again c fits.body in
    when _ _ _ a.0 (ap (customer_words number) a.1)
says told h p (OfBatch seq b) number right fits =
    let a = batch_says h p seq b right fits in
    when _ _ _ a.0 (ap (λ (x : ℕ × Batch). batch_words x.0 x.1) a.1)
says told h p (OfReplica replica) number right fits =
    ap (number_words (codes " replica ")) (replica_read h p replica right fits)
says told h p (OfAttempt a) number right fits =
    let parts = and_parts (is_attempt a) (eqb (length a.accesses) 0) fits.body in
    let none = nil_from_length a.accesses (eqb-true (length a.accesses) 0 parts.1) in
    let own : without_accesses a ≡ a = ap (λ xs. record a { accesses = xs }) (sym none) in
    let again = attempt_again a parts.0 in
    when _ _ _ again.0 (ap attempt_words (again.1 ∙ own))
says told h p (OfAccess x) number right fits =
    let few = few_customers h right in
    let a = access_again (row_count h) x fits.body (omega arith) in
    when _ _ _ a.0 (ap access_words a.1)
says told h p (OfCommit c) number right fits =
    let a = commit_again c fits.body in
    when _ _ _ a.0 (ap commit_words a.1)
says told h p (OfRollback r) number right fits =
    let few = few_customers h right in
    let a = rollback_again (row_count h) r fits.body (omega arith) in
    when _ _ _ a.0 (ap rollback_words a.1)
says told h p (OfTransfer x) number right fits =
    let few = few_customers h right in
    let bytes = frame_text (OfTransfer x) in
    let read : transfer_of (row_count h) (body_in bytes) ≡ Some x = (Exact-transfer (row_count h)).again x fits.body in
    let rows = told (row_count h) bytes (ap is_some read) in
    let a = transfer_again (row_count h) x fits.body in
    when _ _ _ (and_from (leb (state_rows_in bytes) 131072) _ (le-leb _ _ (omega (arith, rows))) a.0)
    (ap transfer_words a.1)
says told h p (OfVerifier verifier) number right fits =
    ap (number_words (codes " verifier ")) (verifier_read h p verifier right fits)
says told h p (OfVote v) number right fits =
    let few = (head_has_limits h right).few_batches in
    let a = vote_again h.batches v fits.body (omega arith) in
    when _ _ _ a.0 (ap vote_words a.1)
says told h p (OfSent s) number right fits =
    let limits = head_has_limits h right in
    let replicas = limits.few_replicas in
    let batches = limits.few_batches in
    let a = sent_again h.replicas h.batches s fits.body (omega arith) (omega arith) in
    when _ _ _ a.0 (ap sent_words a.1)
says told h p End number right fits = refl

pub name_whole : (name : List ℕ) → IsTrue (is_name name) → name_words name ≡ name
name_whole name fits =
    let some = and_parts (leb 1 (length name)) _ fits in
    let few = and_parts (leb (length name) LONGEST_NAME) _ some.1 in
    take_all LONGEST_NAME name (leb-true (length name) LONGEST_NAME few.0)

pub token_whole : (token : List ℕ) → IsTrue (is_token token) → token_words token ≡ encode_lower token
token_whole token fits =
    let parts = and_parts (eqb (length token) TOKEN_LEN) _ fits in
    let len = eqb-true (length token) TOKEN_LEN parts.0 in
    ap encode_lower (take_all TOKEN_LEN token (omega (arith, len)))
