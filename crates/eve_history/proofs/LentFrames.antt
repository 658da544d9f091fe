-- Where frames, steps, access frames and votes stand in the trace's bytes.
use Rattle.std.proofs.Common.{◌≡◌, ℕ, zero, suc, ◌+◌, ◌<◌, ◌==◌, Bool, true, false, cond, List, [], ◌∷◌, ◌++◌}
use Rattle.std.proofs.Common.{map, length, take, drop, slice_get, Option, Some, None, inl, inr, refl, sym, ap, subst}
use Rattle.std.proofs.Common.{◌∙◌, arith}
use Rattle.std.specs.List.{flat_map}
use Rattle.std.proofs.lemmas.Bool.{cases_lt}
use Rattle.std.proofs.lemmas.List.{append-nil, drop_at, get_or_past}
use Rattle.std.proofs.lemmas.Option.{same_Some}
use Rattle.std.proofs.lemmas.List.Folds.{flat_map-map}
use Rattle.eve_grammar.specs.Trace.{Access, Attempt, Rollback, Transfer, Step, Attempts, Commits, RollsBack, Transfers}
use Rattle.eve_grammar.specs.Trace.{Vote, Trace}
use Rattle.eve_grammar.specs.Frames.{Frame, OfAttempt, OfAccess, OfRollback, OfTransfer, OfVerifier, OfVote}
use Rattle.eve_grammar.specs.Frames.{without_accesses, frames_of}
use Rattle.eve_grammar.specs.Spelling.{frame_text, frames_text, head_text, length_of, spelling, located, step_text}
use Rattle.eve_grammar.specs.Spelling.{frames_at, steps_at, accesses_at, verifier_start, votes_of, votes_at}
use Rattle.eve_frames.specs.Views.{attempt_in, access_in, rollback_in, transfer_in}
use Rattle.eve_views.specs.inner.FramesBefore.{before_verifier}
use Rattle.eve_views.specs.Lent.{HasBytesAt}
use Rattle.eve_grammar.proofs.HeaderParts.{length-head_text}
use Rattle.eve_grammar.proofs.Lists.{unmapped}
use Rattle.eve_views.proofs.CutLaws.{verifier_cut}
use Rattle.eve_views.proofs.Lists.{cut_at}
use Rattle.eve_views.proofs.FrameOffsets.{verifier_begins}
use Rattle.eve_history.specs.SectionHistory.{ExecutedAttempt, SectionHistory, executed_attempt, section_history}
use Rattle.eve_history.specs.SectionHistory.{attempts_among, rollbacks_among, access_with, ordered}
use Rattle.eve_history.proofs.FrameOffsets.{StandsIn, stands_inside, located_stands, part_stands}
use Rattle.eve_history.proofs.FrameOffsets.{step_stands, first_stands, access_stands}
use Rattle.eve_history.proofs.Transfers.{transfer_step, transfers_of_steps, transfers_told}

bytes_at : (t : Trace) (at : ℕ) (text : List ℕ) → StandsIn (spelling t) at text → HasBytesAt t at text
bytes_at t at text stands =
    record {
      behind = stands.behind;
      is = ap (drop at) stands.is
          ∙ drop_at stands.prefix (text ++ stands.behind) at stands.offset;
    }

-- ---- frames

all_frames_stand : (t : Trace) → StandsIn (spelling t) 32 (frames_text (frames_of t))
unfolding spelling
all_frames_stand t =
    let head = head_text t.head (length_of t) in
    record {
      prefix = head;
      behind = [];
      is = ap (λ (b : List ℕ). head ++ b) (sym (append-nil (frames_text (frames_of t))));
      offset = length-head_text t.head (length_of t);
    }

pub frames_stand : (t : Trace) (k : ℕ) (x : ℕ × Frame) → slice_get (frames_at t) k ≡ Some x
    → HasBytesAt t x.0 (frame_text x.1)
unfolding frames_at
frames_stand t k x got =
    let xs = located frame_text 32 (frames_of t) in
    let found = located_stands frame_text 32 (frames_of t) (take k xs) x (drop (suc k) xs) (cut_at xs k x got) in
    bytes_at t x.0 (frame_text x.1)
    (subst (λ (at : ℕ). StandsIn (spelling t) at (frame_text x.1)) (sym found.offset)
    (stands_inside (all_frames_stand t) found.stands))

-- ---- steps, and the access frames of attempts

stands : (t : Trace) (e k : ℕ) (step : ℕ × Step) → slice_get (steps_at t e) k ≡ Some step
    → StandsIn (spelling t) step.0 (step_text step.1)
stands t e k step got =
    let xs = steps_at t e in
    step_stands t e (take k xs) step (drop (suc k) xs) (cut_at xs k step got)

pub steps_stand : (t : Trace) (e k : ℕ) (step : ℕ × Step) → slice_get (steps_at t e) k ≡ Some step
    → HasBytesAt t step.0 (step_text step.1)
steps_stand t e k step got = bytes_at t step.0 (step_text step.1) (stands t e k step got)

pub accesses_stand : (t : Trace) (e k i at : ℕ) (a : Attempt) (x : ℕ × Access) → slice_get (steps_at t e) k
    ≡ Some (at, Attempts a) → slice_get (accesses_at at a) i ≡ Some x → HasBytesAt t x.0 (frame_text (OfAccess x.1))
accesses_stand t e k i at a x got own = bytes_at t x.0 (frame_text (OfAccess x.1))
    (access_stands at a i x (stands t e k (at, Attempts a) got) own)

-- ---- votes

votes_text_stands : (t : Trace) (v : ℕ) → v < length t.verifiers
    → StandsIn (spelling t) (verifier_start t v + length (frame_text (OfVerifier v)))
    (flat_map (λ w. frame_text (OfVote w)) (votes_of t v))
votes_text_stands t v lt = part_stands t (before_verifier t v) (map OfVote (votes_of t v)) _ (OfVerifier v)
    (verifier_start t v) (flat_map (λ w. frame_text (OfVote w)) (votes_of t v)) (verifier_cut t v lt)
    (verifier_begins t v) (flat_map-map frame_text OfVote (votes_of t v))

pub votes_stand : (t : Trace) (v k : ℕ) (w : ℕ × Vote) → slice_get (votes_at t v) k ≡ Some w
    → HasBytesAt t w.0 (frame_text (OfVote w.1))
unfolding votes_at
votes_stand t v k w got = elim (cases_lt v (length t.verifiers)) [
  | inl lt ↦
      let text : Vote → List ℕ = λ x. frame_text (OfVote x) in
      let from = verifier_start t v + length (frame_text (OfVerifier v)) in
      let xs = located text from (votes_of t v) in
      let found = located_stands text from (votes_of t v) (take k xs) w (drop (suc k) xs) (cut_at xs k w got) in
      bytes_at t w.0 (frame_text (OfVote w.1))
      (subst (λ (at : ℕ). StandsIn (spelling t) at (frame_text (OfVote w.1))) (sym found.offset)
      (stands_inside (votes_text_stands t v lt) found.stands))
  | inr le ↦ absurd (none (ap
      (λ (ws : List Vote). slice_get
      (located (λ x. frame_text (OfVote x)) (verifier_start t v + length (frame_text (OfVerifier v))) ws) k)
      (sym (get_or_past t.verifiers v [] le)) ∙ got))
]
  where
    none : ◌≡◌ {A = Option (ℕ × Vote)} None (Some w) → ⊥
    none e = cc

-- ---- attempts, rollbacks and states transferred, as they are told

-- the step stands among these
abbrev IsAmong : List (ℕ × Step) → ℕ × Step → Type 0
IsAmong steps step = (before : List (ℕ × Step)) × (rest : List (ℕ × Step)) × (steps ≡ before ++ step ∷ rest)

later : (step : ℕ × Step) (steps : List (ℕ × Step)) (own : ℕ × Step) → IsAmong steps own → IsAmong (step ∷ steps) own
later step steps own found = (step ∷ found.0, found.1, ap (λ (xs : List (ℕ × Step)). step ∷ xs) found.2)

attempt_among : (steps : List (ℕ × Step)) (i : ℕ) (x : ℕ × Attempt) → slice_get (attempts_among steps) i ≡ Some x
    → IsAmong steps (x.0, Attempts x.1)
attempt_among [] i x e = absurd (cc)
attempt_among ((at, Attempts a) ∷ steps) zero x e =
    ([], steps, ap (λ (y : ℕ × Attempt). (y.0, Attempts y.1) ∷ steps) (same_Some (at, a) x e))
attempt_among ((at, Attempts a) ∷ steps) (suc i) x e = later (at, Attempts a) steps (x.0, Attempts x.1)
    (attempt_among steps i x e)
attempt_among ((at, Commits c) ∷ steps) i x e = later (at, Commits c) steps (x.0, Attempts x.1)
    (attempt_among steps i x e)
attempt_among ((at, RollsBack r) ∷ steps) i x e = later (at, RollsBack r) steps (x.0, Attempts x.1)
    (attempt_among steps i x e)
attempt_among ((at, Transfers y) ∷ steps) i x e = later (at, Transfers y) steps (x.0, Attempts x.1)
    (attempt_among steps i x e)

rollback_among : (steps : List (ℕ × Step)) (i : ℕ) (x : ℕ × Rollback) → slice_get (rollbacks_among steps) i ≡ Some x
    → IsAmong steps (x.0, RollsBack x.1)
rollback_among [] i x e = absurd (cc)
rollback_among ((at, RollsBack r) ∷ steps) zero x e =
    ([], steps, ap (λ (y : ℕ × Rollback). (y.0, RollsBack y.1) ∷ steps) (same_Some (at, r) x e))
rollback_among ((at, RollsBack r) ∷ steps) (suc i) x e = later (at, RollsBack r) steps (x.0, RollsBack x.1)
    (rollback_among steps i x e)
rollback_among ((at, Commits c) ∷ steps) i x e = later (at, Commits c) steps (x.0, RollsBack x.1)
    (rollback_among steps i x e)
rollback_among ((at, Attempts a) ∷ steps) i x e = later (at, Attempts a) steps (x.0, RollsBack x.1)
    (rollback_among steps i x e)
rollback_among ((at, Transfers y) ∷ steps) i x e = later (at, Transfers y) steps (x.0, RollsBack x.1)
    (rollback_among steps i x e)

told_attempt : (t : Trace) (e i : ℕ) (r : ExecutedAttempt) → slice_get (section_history t e).attempts i ≡ Some r
    → HasBytesAt t r.offset (frame_text (OfAttempt r.attempt))
unfolding section_history
told_attempt t e i r got =
    let x = unmapped executed_attempt (attempts_among (steps_at t e)) i r got in
    let s = attempt_among (steps_at t e) i x.0 x.1 in
    let own = step_stands t e s.0 (x.0.0, Attempts x.0.1) s.1 s.2 in
    let first = first_stands (OfAttempt (without_accesses x.0.1)) (map OfAccess x.0.1.accesses) own in
    subst (λ (q : ExecutedAttempt). HasBytesAt t q.offset (frame_text (OfAttempt q.attempt))) x.2
    (bytes_at t x.0.0 (frame_text (OfAttempt (without_accesses x.0.1))) first)

told_rollback : (t : Trace) (e i : ℕ) (r : ℕ × Rollback) → slice_get (section_history t e).rollbacks i ≡ Some r
    → HasBytesAt t r.0 (frame_text (OfRollback r.1))
unfolding section_history
told_rollback t e i r got =
    let s = rollback_among (steps_at t e) i r got in
    bytes_at t r.0 (frame_text (OfRollback r.1))
    (first_stands (OfRollback r.1) [] (step_stands t e s.0 (r.0, RollsBack r.1) s.1 s.2))

told_transfer : (t : Trace) (e i : ℕ) (x : ℕ × Transfer) → slice_get (section_history t e).transfers i ≡ Some x
    → HasBytesAt t x.0 (frame_text (OfTransfer x.1))
told_transfer t e i x got =
    let s = transfer_step (steps_at t e) i x
    (ap (λ (xs : List (ℕ × Transfer)). slice_get xs i) (sym (transfers_told t e ∙ transfers_of_steps t e)) ∙ got) in
    bytes_at t x.0 (frame_text (OfTransfer x.1))
    (first_stands (OfTransfer x.1) [] (stands t e s.0 (x.0, Transfers x.1) s.1))

-- a view that lends the attempt's text, where the attempt is one of the trace's
pub lent_attempt : (t : Trace) (e i offset : ℕ) (h : SectionHistory) (r : ExecutedAttempt) (bytes : List ℕ)
    → h ≡ section_history t e
    → slice_get h.attempts i ≡ Some r → offset ≡ r.offset → attempt_in bytes ≡ r.attempt
    → bytes ≡ frame_text (OfAttempt (attempt_in bytes)) → HasBytesAt t offset bytes
lent_attempt t e i offset h r bytes is got there says text =
    let told = told_attempt t e i r (ap (λ (v : SectionHistory). slice_get v.attempts i) (sym is) ∙ got) in
    record {
      behind = told.behind;
      is = ap (λ (o : ℕ). drop o (spelling t)) there ∙ told.is
          ∙ ap (λ (b : List ℕ). b ++ told.behind) (ap (λ (a : Attempt). frame_text (OfAttempt a)) (sym says)
          ∙ sym text);
    }

pub lent_rollback : (t : Trace) (e i offset : ℕ) (h : SectionHistory) (bytes : List ℕ) → h ≡ section_history t e
    → slice_get h.rollbacks i ≡ Some (offset, rollback_in bytes) → bytes ≡ frame_text (OfRollback (rollback_in bytes))
    → HasBytesAt t offset bytes
lent_rollback t e i offset h bytes is got text =
    let told = told_rollback t e i (offset, rollback_in bytes)
    (ap (λ (v : SectionHistory). slice_get v.rollbacks i) (sym is)
    ∙ got) in
    record { behind = told.behind; is = told.is ∙ ap (λ (b : List ℕ). b ++ told.behind) (sym text) }

pub lent_transfer : (t : Trace) (e i offset : ℕ) (h : SectionHistory) (bytes : List ℕ) → h ≡ section_history t e
    → slice_get h.transfers i ≡ Some (offset, transfer_in bytes) → bytes ≡ frame_text (OfTransfer (transfer_in bytes))
    → HasBytesAt t offset bytes
lent_transfer t e i offset h bytes is got text =
    let told = told_transfer t e i (offset, transfer_in bytes)
    (ap (λ (v : SectionHistory). slice_get v.transfers i) (sym is)
    ∙ got) in
    record { behind = told.behind; is = told.is ∙ ap (λ (b : List ℕ). b ++ told.behind) (sym text) }

-- ---- access records in a certificate's order

-- the record of an index is one of these, where it doesn't begin at byte 0, as none does
own_record : (xs : List (ℕ × Access)) (index : ℕ) → 0 < (access_with xs index).0 → (i : ℕ)
    × (slice_get xs i ≡ Some (access_with xs index))
own_record [] index later = absurd (omega (arith, later))
own_record (x ∷ xs) index later = by (x.1.index == index) later (own_record xs index)
  where
    by : (b : Bool) → 0 < (cond b x (access_with xs index)).0
        → (0 < (access_with xs index).0 → (i : ℕ) × (slice_get xs i ≡ Some (access_with xs index)))
        → (i : ℕ) × (slice_get (x ∷ xs) i ≡ Some (cond b x (access_with xs index)))
    by true later rest = (0, refl)
    by false later rest = let own = rest later in (suc own.0, own.1)

-- an attempt's record, whose text a view lends
lent_record : (t : Trace) (e place offset : ℕ) (a : ℕ × Attempt) (bytes : List ℕ)
    → IsAmong (steps_at t e) (a.0, Attempts a.1) → slice_get (ordered a.0 a.1) place ≡ Some (offset, access_in bytes)
    → 0 < offset → bytes ≡ frame_text (OfAccess (access_in bytes)) → HasBytesAt t offset bytes
lent_record t e place offset a bytes among got later text =
    let own = accesses_at a.0 a.1 in
    let index = unmapped (access_with own) a.1.certificate place (offset, access_in bytes) got in
    let found = own_record own index.0 (subst (λ (x : ℕ × Access). 0 < x.0) (sym index.2) later) in
    subst (λ (b : List ℕ). HasBytesAt t offset b) (sym text)
    (bytes_at t offset (frame_text (OfAccess (access_in bytes)))
    (access_stands a.0 a.1 found.0 (offset, access_in bytes)
    (step_stands t e among.0 (a.0, Attempts a.1) among.1 among.2)
    (found.1 ∙ ap Some index.2)))

-- of an attempt that is told
pub lent_ordered : (t : Trace) (e i place offset : ℕ) (h : SectionHistory) (r : ExecutedAttempt) (bytes : List ℕ)
    → h ≡ section_history t e → slice_get h.attempts i ≡ Some r
    → slice_get r.ordered place ≡ Some (offset, access_in bytes) → 0 < offset
    → bytes ≡ frame_text (OfAccess (access_in bytes)) → HasBytesAt t offset bytes
unfolding section_history
lent_ordered t e i place offset h r bytes is got says later text =
    let a = unmapped executed_attempt (attempts_among (steps_at t e)) i r
    (ap (λ (v : SectionHistory). slice_get v.attempts i) (sym is) ∙ got) in
    lent_record t e place offset a.0 bytes (attempt_among (steps_at t e) i a.0 a.1)
    (ap (λ (q : ExecutedAttempt). slice_get q.ordered place) a.2 ∙ says) later text
