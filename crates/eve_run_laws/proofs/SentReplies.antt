-- Each reply that a run sent is one that its replica committed.
use Rattle.std.proofs.Common.{◌≡◌, ℕ, zero, suc, ◌+◌, ◌-◌, List, [], ◌∷◌, ◌++◌, map, length, slice_get, get_or, Some}
use Rattle.std.proofs.Common.{refl, sym, ap, subst, ◌∙◌, zero-add, arith}
use Rattle.std.specs.List.{AllByRecursion}
use Rattle.std.proofs.lemmas.List.{map-append}
use Rattle.std.specs.Prelude.{option_map, replicate}
use Rattle.eve_smallbank.specs.declared.request.Reply.{Reply}
use Rattle.eve_smallbank.proofs.Members.{all_in, all_from_in}
use Rattle.eve_grammar.specs.Trace.{Asked, Batch, Attempt, Commit, Step, Attempts, Commits, RollsBack, Transfers}
use Rattle.eve_grammar.specs.Trace.{Sent, Trace, request_id}
use Rattle.eve_grammar.specs.Frames.{OfReplica}
use Rattle.eve_grammar.specs.Spelling.{frame_text, step_text, section_start, steps_of, steps_at}
use Rattle.eve_grammar.proofs.Lists.{all-append, get_in_prefix}
use Rattle.eve_workload.specs.declared.mixer.Mixer.{Mixer}
use Rattle.eve_workload.specs.Workload.{Workload}
use Rattle.eve_replica.specs.SentReplies.{answered, requests_there, requests_numbered, answers_of, sent_along}
use Rattle.eve_replica.specs.SentReplies.{sent_from_on}
use Rattle.eve_replica.specs.Run.{IsTraceOf}
use Rattle.eve_votes.proofs.Places.{get_between, located_values}
use Rattle.eve_history.specs.Section.{Placed, HowReached, ByAttempt, ByTransfer, Skipped, SectionState, start, path_of}
use Rattle.eve_history.specs.Section.{committing, next, state_after, no_batch, batch_at}
use Rattle.eve_history.specs.SectionHistory.{history, attempt_by, committed_at, IsRightSection}
use Rattle.eve_chains.specs.Committed.{attempts_of}
use Rattle.eve_chains.proofs.LinkedPaths.{committed_number}
use Rattle.eve_agree.specs.SentReplies.{IsReplied, AllReplied}

-- ---- the replies of one attempt

-- At one index stand the request and the reply that it says; the replica and the batch's number are these.
record IsAnswer (e n : ℕ) (requests : List Asked) (replies : List Reply) (s : Sent) : Type 0 where
  index : ℕ
  asked : Asked
  request : slice_get requests index ≡ Some asked
  client : asked.client ≡ s.client
  number : asked.number ≡ s.number
  reply : slice_get replies index ≡ Some s.reply
  replica : s.replica ≡ e
  batch : s.seq ≡ n

later_answer : (e n : ℕ) (asked : Asked) (requests : List Asked) (reply : Reply) (replies : List Reply) (s : Sent)
    → IsAnswer e n requests replies s → IsAnswer e n (asked ∷ requests) (reply ∷ replies) s
later_answer e n asked requests reply replies s a = record {
  index = suc a.index;
  asked = a.asked;
  request = a.request;
  client = a.client;
  number = a.number;
  reply = a.reply;
  replica = a.replica;
  batch = a.batch;
}

all_answer : (e n : ℕ) (requests : List Asked) (replies : List Reply)
    → AllByRecursion (IsAnswer e n requests replies) (answered e n requests replies)
all_answer e n [] replies = tt
all_answer e n (asked ∷ requests) [] = tt
all_answer e n (asked ∷ requests) (reply ∷ replies) = (
  record {
    index = 0;
    asked = asked;
    request = refl;
    client = refl;
    number = refl;
    reply = refl;
    replica = refl;
    batch = refl;
  },
  all_from_in (IsAnswer e n (asked ∷ requests) (reply ∷ replies)) (answered e n requests replies)
      (λ s i. later_answer e n asked requests reply replies s
      (all_in (IsAnswer e n requests replies) (all_answer e n requests replies) i)),
)

-- ---- what was reached stays

stays_committing : (s : SectionState) (pending : List Placed) (n : ℕ) (l : HowReached) → slice_get s.ways_reached n
    ≡ Some l
    → slice_get (committing s pending).ways_reached n ≡ Some l
stays_committing s [] n l there = there
stays_committing s (q ∷ qs) n l there = get_in_prefix s.ways_reached (ByAttempt q ∷ []) n l there

stays_next : (s : SectionState) (step : ℕ × Step) (n : ℕ) (l : HowReached) → slice_get s.ways_reached n ≡ Some l
    → slice_get (next s step).ways_reached n ≡ Some l
stays_next s (at, Attempts a) n l there = there
stays_next s (at, Commits c) n l there = stays_committing s s.pending n l there
stays_next s (at, RollsBack r) n l there = there
stays_next s (at, Transfers x) n l there =
    get_in_prefix s.ways_reached (replicate (x.seq - (s.last + 1)) Skipped ++ ByTransfer at x ∷ []) n l there

stays_reached : (s : SectionState) (steps : List (ℕ × Step)) (n : ℕ) (l : HowReached) → slice_get s.ways_reached n
    ≡ Some l
    → slice_get (state_after s steps).ways_reached n ≡ Some l
stays_reached s [] n l there = there
stays_reached s (step ∷ steps) n l there = stays_reached (next s step) steps n l (stays_next s step n l there)

-- ---- the replies of a section

-- it is an answer by one of the attempts that are committed
record IsByCommitted (batches : List Batch) (e : ℕ) (ways_reached : List HowReached) (s : Sent) : Type 0 where
  place : ℕ
  placed : Placed
  there : slice_get ways_reached place ≡ Some (ByAttempt placed)
  answer : IsAnswer e placed.attempt.seq (requests_numbered batches placed.attempt.seq) placed.attempt.replies s

module _ (batches : List Batch) (e : ℕ) where
  -- what is sent along these steps, with these attempts open before them, is by what is committed after them
  abbrev AreByCommitted : SectionState → List Attempt → List (ℕ × Step) → Type 0
  AreByCommitted s opened steps = AllByRecursion (IsByCommitted batches e (state_after s steps).ways_reached)
      (sent_along batches e opened (map (λ x. x.1) steps))

  -- what is sent at a commit of the first open attempt
  of_first : (s : SectionState) (p : Placed) (ps : List Placed) (steps : List (ℕ × Step))
      → AllByRecursion (IsByCommitted batches e (state_after (committing s (p ∷ ps)) steps).ways_reached)
      (answers_of batches e p.attempt)
  of_first s p ps steps =
      all_from_in (IsByCommitted batches e (state_after (committing s (p ∷ ps)) steps).ways_reached)
      (answers_of batches e p.attempt)
      (λ x i. record {
        place = length s.ways_reached;
        placed = p;
        there = stays_reached (committing s (p ∷ ps)) steps (length s.ways_reached) (ByAttempt p)
            (get_between s.ways_reached (ByAttempt p) []);
        answer = all_in (IsAnswer e p.attempt.seq (requests_numbered batches p.attempt.seq) p.attempt.replies)
            (all_answer e p.attempt.seq (requests_numbered batches p.attempt.seq) p.attempt.replies) i;
      })

  by_commit : (s : SectionState) (pending : List Placed) (at : ℕ) (c : Commit) (steps : List (ℕ × Step))
      → s.pending ≡ pending
      → ((opened : List Attempt) → attempts_of (committing s pending).pending ≡ opened
      → AreByCommitted (committing s pending) opened steps)
      → AllByRecursion (IsByCommitted batches e (state_after (committing s pending) steps).ways_reached)
      (sent_along batches e (attempts_of pending) (map (λ x. x.1) ((at, Commits c) ∷ steps)))
  by_commit s [] at c steps is later = later [] (ap attempts_of is)
  by_commit s (p ∷ ps) at c steps is later =
      all-append (IsByCommitted batches e (state_after (committing s (p ∷ ps)) steps).ways_reached)
      (answers_of batches e p.attempt) (sent_along batches e (attempts_of ps) (map (λ x. x.1) steps))
      (of_first s p ps steps) (later (attempts_of ps) refl)

  along : (s : SectionState) (opened : List Attempt) (steps : List (ℕ × Step)) → attempts_of s.pending ≡ opened
      → AreByCommitted s opened steps
  along s opened [] is = tt
  along s opened ((at, Attempts a) ∷ steps) is =
      along (next s (at, Attempts a)) (opened ++ a ∷ []) steps
      (map-append (λ (p : Placed). p.attempt) s.pending (record { offset = at; attempt = a; path = path_of s } ∷ [])
      ∙ ap (λ (prefix : List Attempt). prefix ++ a ∷ []) is)
  along s opened ((at, Commits c) ∷ steps) is =
      subst (λ (os : List Attempt). AreByCommitted s os ((at, Commits c) ∷ steps)) is
      (by_commit s s.pending at c steps refl (λ os same. along (committing s s.pending) os steps same))
  along s opened ((at, RollsBack r) ∷ steps) is = along (next s (at, RollsBack r)) [] steps refl
  along s opened ((at, Transfers x) ∷ steps) is = along (next s (at, Transfers x)) [] steps refl

section_by_committed : (t : Trace) (e : ℕ)
    → AllByRecursion (IsByCommitted t.batches e (history t e).ways_reached) (sent_along t.batches e [] (steps_of t e))
unfolding history steps_at
section_by_committed t e =
    subst (λ (steps : List Step). AllByRecursion (IsByCommitted t.batches e (history t e).ways_reached)
    (sent_along t.batches e [] steps))
    (located_values step_text (section_start t e + length (frame_text (OfReplica e))) (steps_of t e))
    (along t.batches e start [] (steps_at t e) refl)

-- ---- they are replies of what was committed

requests_found : (batches : List Batch) (n : ℕ)
    → requests_there (slice_get batches n) ≡ (get_or batches n no_batch).requests
requests_found [] n = refl
requests_found (b ∷ bs) zero = refl
requests_found (b ∷ bs) (suc n) = requests_found bs n

requests_at : (t : Trace) (n : ℕ) → requests_numbered t.batches (suc n) ≡ (batch_at t (suc n)).requests
requests_at t n = requests_found t.batches n ∙ ap (λ (k : ℕ). (get_or t.batches k no_batch).requests) (one_less n)
  where
    one_less : (n : ℕ) → n ≡ suc n - 1
    one_less n = omega arith

replied : (t : Trace) (e : ℕ) (s : Sent) → IsRightSection t e
    → IsByCommitted t.batches e (history t e).ways_reached s → IsReplied t s
replied t e s right by =
    let a = by.placed.attempt in
    let number : a.seq ≡ suc by.place = committed_number t e (suc by.place) by.placed right
    (ap attempt_by by.there) in
    let seq : s.seq ≡ suc by.place = by.answer.batch ∙ number in
    let requests : requests_numbered t.batches a.seq ≡ (batch_at t s.seq).requests =
    ap (requests_numbered t.batches) number ∙ requests_at t by.place ∙ ap (λ (n : ℕ). (batch_at t n).requests) (sym seq)
    in
    record {
      placed = by.placed;
      index = by.answer.index;
      committed = ap (committed_at t s.replica) seq ∙ ap (λ (r : ℕ). committed_at t r (suc by.place)) by.answer.replica
          ∙ ap attempt_by by.there;
      request = ap (option_map request_id)
          (ap (λ (xs : List Asked). slice_get xs by.answer.index) (sym requests) ∙ by.answer.request)
          ∙ (λ j. Some (by.answer.client j, by.answer.number j));
      reply = by.answer.reply;
    }

section_replied : (t : Trace) (e : ℕ) → IsRightSection t e
    → AllByRecursion (IsReplied t) (sent_along t.batches e [] (steps_of t e))
section_replied t e right = all_from_in (IsReplied t) (sent_along t.batches e [] (steps_of t e))
    (λ s i. replied t e s right
    (all_in (IsByCommitted t.batches e (history t e).ways_reached) (section_by_committed t e) i))

-- ---- of all replicas

all_sent : (P : Sent → Type 0) (batches : List Batch) (e : ℕ) (sections : List (List Step))
    → ((k : ℕ) → AllByRecursion P (sent_along batches (e + k) [] (get_or sections k [])))
    → AllByRecursion P (sent_from_on batches e sections)
all_sent P batches e [] each = tt
all_sent P batches e (steps ∷ sections) each =
    all-append P (sent_along batches e [] steps) (sent_from_on batches (e + 1) sections)
    (subst (λ (n : ℕ). AllByRecursion P (sent_along batches n [] steps)) (first e) (each 0))
    (all_sent P batches (e + 1) sections
    (λ k. subst (λ (n : ℕ). AllByRecursion P (sent_along batches n [] (get_or sections k []))) (later e k)
    (each (suc k))))
  where
    first : (n : ℕ) → n + 0 ≡ n
    first n = omega arith

    later : (n k : ℕ) → n + suc k ≡ n + 1 + k
    later n k = omega arith

pub all_replied : (w : Workload) (mixer : Mixer) (t : Trace) → IsTraceOf w mixer t → ((e : ℕ) → IsRightSection t e)
    → AllReplied t
all_replied w mixer t run right =
    subst (AllByRecursion (IsReplied t))
    (sym (run.sent ∙ ap (λ (bs : List Batch). sent_from_on bs 0 t.sections) (sym run.batches)))
    (all_sent (IsReplied t) t.batches 0 t.sections
    (λ k. subst (λ (n : ℕ). AllByRecursion (IsReplied t) (sent_along t.batches n [] (steps_of t k))) (sym (zero-add k))
    (section_replied t k (right k))))
