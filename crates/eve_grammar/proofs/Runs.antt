-- Public: other crates cite these lemmas. The frames of a trace within its limits run from the first to the end.
use Rattle.std.proofs.Common.{◌≡◌, ℕ, zero, suc, ◌+◌, ◌-◌, ◌^◌, ◌<◌, ◌≤◌, Bool, true, false, not, ◌&&◌, ◌||◌, List, []}
use Rattle.std.proofs.Common.{◌∷◌, ◌++◌, map, length, refl, sym, subst, append_assoc, arith, lt-ltb, le-ltb, eq-eqb}
use Rattle.std.proofs.Common.{eqb-true, ne_eqb, length-append}
use Rattle.std.specs.Prelude.{IsTrue, nat_lt, ◌==◌}
use Rattle.std.specs.List.{flat_map, enumerate_from, list_all}
use Rattle.std.proofs.lemmas.Bool.{and_parts, and_from, or_left, or_right}
use Rattle.eve_grammar.specs.Trace.{Customer, Batch, Access, Attempt, Step, Attempts, Commits, RollsBack, Transfers}
use Rattle.eve_grammar.specs.Trace.{Vote, Sent, Trace, head_of}
use Rattle.eve_grammar.specs.Frames.{Frame, OfCustomer, OfBatch, OfAccess, OfVote, OfSent, End, step_frames}
use Rattle.eve_grammar.specs.Frames.{section_frames, verifier_frames, frames_of, kind_of, start_place}
use Rattle.eve_grammar.specs.Frames.{next_place, has_transfers}
use Rattle.eve_grammar.specs.Frames.{is_allowed_in_sections, is_allowed_behind_sections, is_allowed}
use Rattle.eve_grammar.specs.Spelling.{frame_text, frames_text, length_of}
use Rattle.eve_grammar.specs.Limits.{is_head, is_customer, is_batch, is_access, is_attempt, is_step, is_of_version}
use Rattle.eve_grammar.specs.Limits.{is_vote, is_sent, row_count, HasLimits, is_body}
use Rattle.eve_grammar.specs.FrameOrder.{Follow, after, AreAllFrames}
use Rattle.eve_grammar.specs.declared.head.Head.{Head}
use Rattle.eve_grammar.specs.declared.place.Place.{Place}
use Rattle.eve_grammar.proofs.HeadLimits.{head_has_limits}

-- frames that stand in order up to the end, but for their lengths
Runs : Head → Place → List Frame → Type 0
Runs h p [] = IsTrue p.ended
Runs h p (f ∷ fs) = IsTrue (is_allowed h p (kind_of f)) × IsTrue (is_body h p f) × Runs h (next_place p f) fs

run_ends : (fs : List Frame) (h : Head) (p : Place) → Runs h p fs → IsTrue (after p fs).ended
unfolding Runs
run_ends [] h p r = r
run_ends (f ∷ fs) h p r = run_ends fs h (next_place p f) r.2

-- no body is longer than all frames
run_follows : (fs : List Frame) (h : Head) (p : Place) → length (frames_text fs) < 2 ^ 32 → Runs h p fs → Follow h p fs
unfolding Runs
run_follows [] h p short r = tt
run_follows (f ∷ fs) h p short r =
    let both : length (frames_text (f ∷ fs)) ≡ length (frame_text f) + length (frames_text fs) =
    length-append (frame_text f) (frames_text fs) in
    (record { allowed = r.0; body = r.1; short = omega arith }, run_follows fs h (next_place p f) (omega arith) r.2)

-- a place before the sent replies
abbrev place : ℕ → ℕ → ℕ → ℕ → ℕ → Place
place c b r x v = record {
  customers = c;
  batches = b;
  replicas = r;
  accesses = x;
  verifiers = v;
  sending = false;
  ended = false;
}

-- after the customers and batches, in the sections
abbrev in_section : Head → ℕ → ℕ → Place
in_section h r x = place h.customers h.batches r x 0

-- after the sections
abbrev behind_sections : Head → ℕ → Bool → Place
behind_sections h v sending =
    record {
      customers = h.customers;
      batches = h.batches;
      replicas = h.replicas;
      accesses = 0;
      verifiers = v;
      sending = sending;
      ended = false;
    }

abbrev in_votes : Head → ℕ → Place
in_votes h v = behind_sections h v false

abbrev in_sent : Head → Bool → Place
in_sent h sending = behind_sections h h.verifiers sending

-- ---- customers and batches

run_customers : (cs : List Customer) (k : ℕ) (h : Head) (rest : List Frame) → k + length cs ≡ h.customers
    → IsTrue (list_all is_customer cs) → Runs h (place h.customers 0 0 0 0) rest
    → Runs h (place k 0 0 0 0) (map OfCustomer cs ++ rest)
unfolding Runs
run_customers [] k h rest e limits r = let done : h.customers ≡ k = omega arith in
    subst (λ (k : ℕ). Runs h (place k 0 0 0 0) rest) done r
run_customers (c ∷ cs) k h rest e limits r =
    let l = and_parts (is_customer c) (list_all is_customer cs) limits in
    let more : k < h.customers = omega arith in
    (rw (lt-ltb k h.customers more) refl, l.0, run_customers cs (k + 1) h rest (omega arith) l.1 r)

run_batches : (bs : List Batch) (k : ℕ) (h : Head) (rest : List Frame) → k + length bs ≡ h.batches
    → IsTrue (list_all is_batch bs) → Runs h (in_section h 0 0) rest
    → Runs h (place h.customers k 0 0 0) (map (λ b. OfBatch b.0 b.1) (enumerate_from (k + 1) bs) ++ rest)
unfolding Runs
run_batches [] k h rest e limits r = let done : h.batches ≡ k = omega arith in
    subst (λ (k : ℕ). Runs h (place h.customers k 0 0 0) rest) done r
run_batches (b ∷ bs) k h rest e limits r =
    let l = and_parts (is_batch b) (list_all is_batch bs) limits in
    let more : k < h.batches = omega arith in
    let all : h.customers ≤ h.customers = omega arith in (
      rw (le-ltb h.customers h.customers all, lt-ltb k h.batches more) refl,
      and_from (k + 1 == k + 1) (is_batch b) (eq-eqb (k + 1) (k + 1) refl) l.0,
      run_batches bs (k + 1) h rest (omega arith) l.1 r,
    )

-- ---- sections

allowed_in_section : (h : Head) (r kind : ℕ) → IsTrue (is_allowed_in_sections h (in_section h r 0) kind)
    → IsTrue (is_allowed h (in_section h r 0) kind)
allowed_in_section h r kind e =
    let cs : h.customers ≤ h.customers = omega arith in
    let bs : h.batches ≤ h.batches = omega arith in
    rw (le-ltb h.customers h.customers cs, le-ltb h.batches h.batches bs) e

allowed_access : (h : Head) (r n : ℕ) → IsTrue (is_allowed h (in_section h r (suc n)) 18)
allowed_access h r n =
    let cs : h.customers ≤ h.customers = omega arith in
    let bs : h.batches ≤ h.batches = omega arith in
    let xs : 0 < suc n = omega arith in
    rw (le-ltb h.customers h.customers cs, le-ltb h.batches h.batches bs, lt-ltb 0 (suc n) xs) refl

run_accesses : (xs : List Access) (r : ℕ) (h : Head) (rest : List Frame)
    → IsTrue (list_all (is_access (row_count h)) xs) → Runs h (in_section h r 0) rest
    → Runs h (in_section h r (length xs)) (map OfAccess xs ++ rest)
unfolding Runs
run_accesses [] r h rest limits run = run
run_accesses (x ∷ xs) r h rest limits run =
    let l = and_parts (is_access (row_count h) x) (list_all (is_access (row_count h)) xs) limits in
    let less : length xs ≡ suc (length xs) - 1 = omega arith in (
      allowed_access h r (length xs),
      l.0,
      subst (λ (n : ℕ). Runs h (in_section h r n) (map OfAccess xs ++ rest)) less
          (run_accesses xs r h rest l.1 run),
    )

allowed_step : (h : Head) (r kind : ℕ) → 0 < r
    → IsTrue ((kind == 17) || ((kind == 19) || ((kind == 20) || ((kind == 21) && has_transfers h.version))))
    → IsTrue (is_allowed_in_sections h (in_section h r 0) kind)
allowed_step h r kind some e =
    let steps = (kind == 17) || ((kind == 19) || ((kind == 20) || ((kind == 21) && has_transfers h.version))) in
    or_right ((kind == 16) && nat_lt r h.replicas) _
    (or_left (nat_lt 0 r && steps) ((kind == 32) && (r == h.replicas))
    (and_from (nat_lt 0 r) steps (lt-ltb 0 r some) e))

run_attempt : (a : Attempt) (r : ℕ) (h : Head) (rest : List Frame) → 0 < r → IsTrue (is_step (row_count h) (Attempts a))
    → Runs h (in_section h r 0) rest
    → Runs h (in_section h r 0) (step_frames (Attempts a) ++ rest)
unfolding Runs
run_attempt a r h rest some limits run =
    let l = and_parts (is_attempt a)
    ((length a.accesses == length a.certificate) && list_all (is_access (row_count h)) a.accesses) limits in
    let m = and_parts (length a.accesses == length a.certificate) (list_all (is_access (row_count h)) a.accesses) l.1 in
    let n = eqb-true (length a.accesses) (length a.certificate) m.0 in (
      allowed_in_section h r 17 (allowed_step h r 17 some refl),
      and_from (is_attempt a) true l.0 refl,
      subst (λ (n : ℕ). Runs h (in_section h r n) (map OfAccess a.accesses ++ rest)) n
          (run_accesses a.accesses r h rest m.1 run),
    )

run_step : (s : Step) (r : ℕ) (h : Head) (rest : List Frame) → 0 < r → IsTrue (is_step (row_count h) s)
    → IsTrue (is_of_version h.version s) → Runs h (in_section h r 0) rest
    → Runs h (in_section h r 0) (step_frames s ++ rest)
unfolding Runs
run_step (Attempts a) r h rest some limits kind run = run_attempt a r h rest some limits run
run_step (Commits c) r h rest some limits kind run =
    (allowed_in_section h r 19 (allowed_step h r 19 some refl), limits, run)
run_step (RollsBack b) r h rest some limits kind run =
    (allowed_in_section h r 20 (allowed_step h r 20 some refl), limits, run)
run_step (Transfers x) r h rest some limits kind run =
    (allowed_in_section h r 21 (allowed_step h r 21 some kind), limits, run)

run_steps : (ss : List Step) (r : ℕ) (h : Head) (rest : List Frame) → 0 < r
    → IsTrue (list_all (is_step (row_count h)) ss) → IsTrue (list_all (is_of_version h.version) ss)
    → Runs h (in_section h r 0) rest → Runs h (in_section h r 0) (flat_map step_frames ss ++ rest)
run_steps [] r h rest some limits kinds run = run
run_steps (s ∷ ss) r h rest some limits kinds run =
    let l = and_parts (is_step (row_count h) s) (list_all (is_step (row_count h)) ss) limits in
    let k = and_parts (is_of_version h.version s) (list_all (is_of_version h.version) ss) kinds in
    let later = flat_map step_frames ss in
    subst (Runs h (in_section h r 0)) (sym (append_assoc (step_frames s) later rest))
    (run_step s r h (later ++ rest) some l.0 k.0 (run_steps ss r h rest some l.1 k.1 run))

allowed_replica : (h : Head) (r : ℕ) → r < h.replicas → IsTrue (is_allowed_in_sections h (in_section h r 0) 16)
allowed_replica h r more = rw (lt-ltb r h.replicas more) refl

run_sections : (sections : List (List Step)) (r : ℕ) (h : Head) (rest : List Frame) → r + length sections ≡ h.replicas
    → IsTrue (list_all (list_all (is_step (row_count h))) sections)
    → IsTrue (list_all (list_all (is_of_version h.version)) sections)
    → Runs h (in_section h h.replicas 0) rest
    → Runs h (in_section h r 0) (flat_map section_frames (enumerate_from r sections) ++ rest)
unfolding Runs
run_sections [] r h rest e limits kinds run = let done : h.replicas ≡ r = omega arith in
    subst (λ (r : ℕ). Runs h (in_section h r 0) rest) done run
run_sections (ss ∷ sections) r h rest e limits kinds run =
    let l = and_parts (list_all (is_step (row_count h)) ss) (list_all (list_all (is_step (row_count h))) sections)
    limits in
    let k = and_parts (list_all (is_of_version h.version) ss) (list_all (list_all (is_of_version h.version)) sections)
    kinds in
    let later = flat_map section_frames (enumerate_from (r + 1) sections) in
    let steps = run_steps ss (r + 1) h (later ++ rest) (omega arith) l.0 k.0
    (run_sections sections (r + 1) h rest (omega arith) l.1 k.1 run) in
    subst (Runs h (in_section h r 0)) (sym (append_assoc (section_frames (r, ss)) later rest))
    (allowed_in_section h r 16 (allowed_replica h r (omega arith)), eq-eqb r r refl, steps)

-- ---- votes, and what is sent

allowed_behind : (h : Head) (v : ℕ) (sending : Bool) (kind : ℕ) → 0 < v
    → IsTrue (is_allowed_behind_sections h (behind_sections h v sending) kind)
    → IsTrue (is_allowed h (behind_sections h v sending) kind)
allowed_behind h v sending kind some e =
    let cs : h.customers ≤ h.customers = omega arith in
    let bs : h.batches ≤ h.batches = omega arith in
    rw (le-ltb h.customers h.customers cs, le-ltb h.batches h.batches bs, ne_eqb v 0 (λ z. omega arith)) e

allowed_verifier : (h : Head) (v : ℕ) → v < h.verifiers → IsTrue (is_allowed h (in_votes h v) 32)
allowed_verifier h zero more =
    allowed_in_section h h.replicas 32
    (or_right (nat_lt 0 h.replicas && false) (h.replicas == h.replicas) (eq-eqb h.replicas h.replicas refl))
allowed_verifier h (suc v) more =
    let less = or_left (nat_lt (suc v) h.verifiers) false (lt-ltb (suc v) h.verifiers more) in
    allowed_behind h (suc v) false 32 (omega arith)
    (or_left (nat_lt (suc v) h.verifiers || false) ((suc v == h.verifiers) && false) less)

allowed_sent : (h : Head) (sending : Bool) (kind : ℕ) → 0 < h.verifiers → IsTrue ((kind == 48) || (kind == 127))
    → IsTrue (is_allowed h (in_sent h sending) kind)
allowed_sent h sending kind some e =
    let all = and_from (h.verifiers == h.verifiers) ((kind == 48) || (kind == 127))
    (eq-eqb h.verifiers h.verifiers refl) e in
    allowed_behind h h.verifiers sending kind some
    (or_right (not sending && (((kind == 32) && nat_lt h.verifiers h.verifiers) || (kind == 33))) _ all)

run_votes : (vs : List Vote) (v : ℕ) (h : Head) (rest : List Frame) → 0 < v → IsTrue (list_all (is_vote h.batches) vs)
    → Runs h (in_votes h v) rest → Runs h (in_votes h v) (map OfVote vs ++ rest)
unfolding Runs
run_votes [] v h rest some limits run = run
run_votes (w ∷ vs) v h rest some limits run =
    let l = and_parts (is_vote h.batches w) (list_all (is_vote h.batches) vs) limits in
    (allowed_behind h v false 33 some refl, l.0, run_votes vs v h rest some l.1 run)

run_verifiers : (verifiers : List (List Vote)) (v : ℕ) (h : Head) (rest : List Frame) → v + length verifiers
    ≡ h.verifiers → IsTrue (list_all (list_all (is_vote h.batches)) verifiers)
    → Runs h (in_votes h h.verifiers) rest
    → Runs h (in_votes h v) (flat_map verifier_frames (enumerate_from v verifiers) ++ rest)
unfolding Runs
run_verifiers [] v h rest e limits run = let done : h.verifiers ≡ v = omega arith in
    subst (λ (v : ℕ). Runs h (in_votes h v) rest) done run
run_verifiers (vs ∷ verifiers) v h rest e limits run =
    let l = and_parts (list_all (is_vote h.batches) vs) (list_all (list_all (is_vote h.batches)) verifiers) limits in
    let later = flat_map verifier_frames (enumerate_from (v + 1) verifiers) in
    let votes = run_votes vs (v + 1) h (later ++ rest) (omega arith) l.0
    (run_verifiers verifiers (v + 1) h rest (omega arith) l.1 run) in
    subst (Runs h (in_votes h v)) (sym (append_assoc (verifier_frames (v, vs)) later rest))
    (allowed_verifier h v (omega arith), eq-eqb v v refl, votes)

run_sent : (sent : List Sent) (sending : Bool) (h : Head) → 0 < h.verifiers
    → IsTrue (list_all (is_sent h.replicas h.batches) sent) → Runs h (in_sent h sending) (map OfSent sent ++ End ∷ [])
unfolding Runs
run_sent [] sending h some limits = (allowed_sent h sending 127 some refl, refl, refl)
run_sent (s ∷ sent) sending h some limits =
    let l = and_parts (is_sent h.replicas h.batches s) (list_all (is_sent h.replicas h.batches) sent) limits in
    (allowed_sent h sending 48 some refl, l.0, run_sent sent true h some l.1)

-- ---- the whole

-- there is a verifier
pub some_verifier : (h : Head) → IsTrue (is_head h) → 0 < h.verifiers
some_verifier h right = (head_has_limits h right).some_verifiers

frames_run : (t : Trace) → HasLimits t → Runs (head_of t) start_place (frames_of t)
unfolding frames_of
frames_run t limits =
    let h = head_of t in
    let sent = run_sent t.sent false h (some_verifier h limits.head) limits.sent in
    let verifiers = run_verifiers t.verifiers 0 h _ (omega arith) limits.votes sent in
    let sections = run_sections t.sections 0 h _ (omega arith) limits.sections limits.kinds verifiers in
    let batches = run_batches t.batches 0 h _ (omega arith) limits.batches sections in
    run_customers t.customers 0 h _ (omega arith) limits.customers batches

-- the frames of a trace within its limits, of at most 2^30 bytes, run
pub run_of_trace : (t : Trace) → HasLimits t → length_of t ≤ 2 ^ 30 → AreAllFrames (head_of t) (frames_of t)
unfolding length_of
run_of_trace t limits short =
    let run = frames_run t limits in
    record {
      follow = run_follows (frames_of t) (head_of t) start_place (omega arith) run;
      ended = run_ends (frames_of t)
          (head_of t) start_place run;
    }
