-- What is answered, and by which reply.
use Rattle.std.proofs.Common.{◌≡◌, ℕ, ◌*◌, ◌==◌, List, [], map, take, drop, length, slice_get, Option, Some, None}
use Rattle.std.proofs.Common.{false, refl, sym, ap, subst, ◌∙◌}
use Rattle.std.specs.Prelude.{IsTrue, unwrap_or}
use Rattle.std.specs.List.{flat_map, list_all}
use Rattle.std.specs.Option.{is_some, option_map}
use Rattle.std.proofs.lemmas.Bool.{and_parts}
use Rattle.std.proofs.lemmas.Option.{slice_get-map}
use Rattle.eve_smallbank.specs.declared.request.Reply.{Reply}
use Rattle.eve_smallbank.specs.Spelling.{reply_text}
use Rattle.eve_grammar.specs.declared.limits.TheConstants.{MOST_REQUESTS}
use Rattle.eve_grammar.specs.Limits.{is_attempt, is_between, is_number, is_reply}
use Rattle.eve_grammar.specs.Trace.{Attempt, RequestId, Sent, Trace, request_id}
use Rattle.eve_history.specs.Section.{Placed, batch_at}
use Rattle.eve_history.specs.SectionHistory.{ExecutedAttempt, SectionHistory}
use Rattle.eve_history.specs.SectionHistory.{section_history, committed_at}
use Rattle.eve_chains.proofs.LinkedPaths.{none≢some}
use Rattle.eve_agree.specs.ByNumber.{told_at}
use Rattle.eve_agree.specs.inner.KeptRequests.{AnswersAt, AreSpelled, replies_at}
use Rattle.eve_agree.specs.SentReplies.{IsReplied}
use Rattle.eve_agree.proofs.ByNumber.{told_item, told_same}
use Rattle.eve_agree.proofs.SpelledReplies.{spelled_at, read_spelled}

-- ---- the replies of one batch

abbrev pub replies_in : Option Placed → List Reply
replies_in o = unwrap_or (option_map (λ p. p.attempt.replies) o) []

there_in : (o : Option Placed) (i : ℕ) (r : Reply) → slice_get (replies_in o) i ≡ Some r
    → (p : Placed) × (o ≡ Some p) × (slice_get p.attempt.replies i ≡ Some r)
there_in None i r at = none≢some r at
there_in (Some p) i r at = (p, refl, at)

none_in : (o : Option Placed) → is_some o ≡ false → replies_in o ≡ []
none_in None gone = refl
none_in (Some p) gone = absurd cc

-- an attempt's replies fit
pub replies_fit : (a : Attempt) → IsTrue (is_attempt a) → IsTrue (list_all is_reply a.replies)
replies_fit a fits =
    (and_parts (list_all is_reply a.replies) _
    (and_parts (length a.replies == length a.certificate) _
    (and_parts (list_all (is_number 2) a.certificate) _
    (and_parts (is_between 1 MOST_REQUESTS (length a.certificate)) _
    (and_parts (is_number 4 a.view) _ (and_parts (is_number 4 a.seq) _ fits).1).1).1).1).1).0

-- where the replica didn't commit the batch
pub spelled_none : (t : Trace) (e n : ℕ) (h : SectionHistory) → h ≡ section_history t e
    → is_some (told_at h n) ≡ false → AreSpelled (replies_at t e n) []
spelled_none t e n h is gone =
    let none : replies_at t e n ≡ [] = none_in (committed_at t e n) (sym (told_same t e h n is) ∙ gone) in
    subst (λ (rs : List Reply). AreSpelled rs []) (sym none) (record { is = refl; fit = refl })

-- the attempt by which it did
pub spelled_some : (t : Trace) (e n : ℕ) (h : SectionHistory) (r : ExecutedAttempt) (a : Attempt) (text : List ℕ)
    → h ≡ section_history t e → told_at h n ≡ Some r → a ≡ r.attempt → IsTrue (list_all is_reply a.replies)
    → text ≡ flat_map reply_text a.replies → AreSpelled (replies_at t e n) text
spelled_some t e n h r a text is at same fits spelled =
    let found = told_item t e h n r is at in
    let own : replies_at t e n ≡ a.replies = ap replies_in found.1
    ∙ ap (λ (q : ExecutedAttempt). q.attempt.replies) found.2 ∙ ap (λ (b : Attempt). b.replies) (sym same) in
    subst (λ (rs : List Reply). AreSpelled rs text) (sym own) (record { is = spelled; fit = fits })

-- ---- one reply sent

pub replied_from : (t : Trace) (s : Sent) (text : List ℕ) (request_ids : List RequestId) (i : ℕ)
    → AreSpelled (replies_at t s.replica s.seq) text → request_ids ≡ map request_id (batch_at t s.seq).requests
    → IsTrue (is_reply s.reply) → AnswersAt request_ids text s i → IsReplied t s
replied_from t s text request_ids i spelled is fits answer =
    let at = read_spelled (replies_at t s.replica s.seq) i s.reply spelled.fit fits
    (ap (λ (xs : List ℕ). take 9 (drop (9 * i) xs)) (sym spelled.is) ∙ answer.reply) in
    let found = there_in (committed_at t s.replica s.seq) i s.reply at in
    record {
      placed = found.0;
      index = i;
      committed = found.1;
      request = sym (slice_get-map request_id (batch_at t s.seq).requests i)
          ∙ ap (λ (xs : List RequestId). slice_get xs i) (sym is) ∙ answer.request_id;
      reply = found.2;
    }

pub answer_from : (t : Trace) (s : Sent) (text : List ℕ) (request_ids : List RequestId)
    → AreSpelled (replies_at t s.replica s.seq) text → request_ids ≡ map request_id (batch_at t s.seq).requests
    → IsReplied t s → (i : ℕ) × AnswersAt request_ids text s i
answer_from t s text request_ids spelled is replied =
    let at : slice_get (replies_at t s.replica s.seq) replied.index ≡ Some s.reply =
    ap (λ (o : Option Placed). slice_get (replies_in o) replied.index) replied.committed ∙ replied.reply in (
      replied.index,
      record {
        request_id = ap (λ (xs : List RequestId). slice_get xs replied.index) is
            ∙ slice_get-map request_id (batch_at t s.seq).requests replied.index ∙ replied.request;
        reply = ap (λ (xs : List ℕ). take 9 (drop (9 * replied.index) xs)) spelled.is
            ∙ spelled_at (replies_at t s.replica s.seq) replied.index s.reply at;
      },
    )
