-- The parts of a trace stand one after another.
use Rattle.std.proofs.Common.{◌≡◌, ℕ, zero, suc, ◌+◌, ◌<◌, ◌≤◌, inl, inr, List, [], ◌∷◌, ◌++◌, map, length, take, sym}
use Rattle.std.proofs.Common.{ap, subst, ◌∙◌, arith}
use Rattle.std.specs.Prelude.{slice_index_or}
use Rattle.std.specs.List.{flat_map, enumerate_from, AllByRecursion}
use Rattle.std.proofs.lemmas.Bool.{cases_lt}
use Rattle.std.proofs.lemmas.List.{get_or_past, length-append}
use Rattle.std.proofs.lemmas.List.Folds.{flat_map-map}
use Rattle.eve_grammar.specs.Trace.{Batch, Attempt, Attempts, Vote, Trace}
use Rattle.eve_grammar.specs.Frames.{Frame, OfCustomer, OfBatch, OfReplica, OfAttempt as AttemptFrame, OfAccess}
use Rattle.eve_grammar.specs.Frames.{OfVerifier, OfVote, OfSent, End, section_frames, verifier_frames, batches_of}
use Rattle.eve_grammar.specs.Frames.{sections_of, verifiers_of, frames_of}
use Rattle.eve_grammar.specs.Spelling.{frame_text, located, customer_text, batch_text, step_text}
use Rattle.eve_grammar.specs.Spelling.{section_text, votes_text, batches_start, section_start, verifiers_start}
use Rattle.eve_grammar.specs.Spelling.{verifier_start, sent_start, length_of, customers_at, batches_at, steps_of}
use Rattle.eve_grammar.specs.Spelling.{steps_at, accesses_at, votes_of, votes_at, sent_at}
use Rattle.eve_grammar.proofs.Lists.{all-weaker}
use Rattle.eve_views.specs.inner.PartPlaces.{LiesBetween, StandInOrder}
use Rattle.eve_views.proofs.FrameOffsets.{frames_text-flat_map, section_is, length-frames_text}

-- ---- what is located lies between the ends

module _ {A : Type 0} (text : A → List ℕ) where
  all_located : (at : ℕ) (xs : List A)
      → AllByRecursion (λ x. LiesBetween at (at + length (flat_map text xs)) x.0 (length (text x.1)))
      (located text at xs)
  all_located at [] = tt
  all_located at (x ∷ xs) =
      let more = length-append (text x) (flat_map text xs) in
      let later = all_located (at + length (text x)) xs in (
        (omega arith, omega (arith, more)),
        all-weaker
            (λ y. LiesBetween (at + length (text x)) (at + length (text x) + length (flat_map text xs)) y.0
            (length (text y.1)))
            (λ y. LiesBetween at (at + length (text x ++ flat_map text xs)) y.0 (length (text y.1)))
            (located text (at + length (text x)) xs) (λ y b. (omega (arith, b.0), omega (arith, b.1, more))) later,
      )

  -- and so between what lies further out
  within : (at from to : ℕ) (xs : List A) → from ≤ at → at + length (flat_map text xs) ≤ to
      → AllByRecursion (λ x. LiesBetween from to x.0 (length (text x.1))) (located text at xs)
  within at from to xs low high =
      all-weaker (λ x. LiesBetween at (at + length (flat_map text xs)) x.0 (length (text x.1)))
      (λ x. LiesBetween from to x.0 (length (text x.1))) (located text at xs)
      (λ x b. (omega (arith, b.0, low), omega (arith, b.1, high))) (all_located at xs)

-- ---- numbered parts

-- the bytes of the first of them
abbrev prefix : {B : Type 0} → (ℕ × List B → List ℕ) → ℕ → ℕ → List (List B) → ℕ
prefix text n e parts = length (flat_map text (take e (enumerate_from n parts)))

module _ {B : Type 0} (text : ℕ × List B → List ℕ) where
  prefix_more : (n e : ℕ) (parts : List (List B)) → e < length parts → prefix text n (suc e) parts
      ≡ prefix text n e parts + length (text (n + e, slice_index_or parts e []))
  prefix_more n e [] lt = absurd (omega (arith, lt))
  prefix_more n zero (s ∷ parts) lt =
      let same : n + 0 ≡ n = omega arith in
      let one : length (text (n + 0, s)) ≡ length (text (n, s)) = ap (λ (m : ℕ). length (text (m, s))) same in
      omega (arith, one, length-append (text (n, s)) [])
  prefix_more n (suc e) (s ∷ parts) lt =
      let same : n + suc e ≡ n + 1 + e = omega arith in
      let one : length (text (n + suc e, slice_index_or parts e []))
      ≡ length (text (n + 1 + e, slice_index_or parts e [])) =
      ap (λ (m : ℕ). length (text (m, slice_index_or parts e []))) same in
      let later = prefix_more (n + 1) e parts (omega (arith, lt)) in
      omega (
        arith,
        one,
        later,
        length-append (text (n, s))
            (flat_map text (take (suc e) (enumerate_from (n + 1) parts))),
        length-append (text (n, s))
            (flat_map text (take e (enumerate_from (n + 1) parts))),
      )

  prefix_rises : (n e : ℕ) (parts : List (List B)) → prefix text n e parts ≤ prefix text n (suc e) parts
  prefix_rises n zero parts = omega arith
  prefix_rises n (suc e) [] = omega arith
  prefix_rises n (suc e) (s ∷ parts) =
      let later = prefix_rises (n + 1) e parts in
      omega (
        arith,
        later,
        length-append (text (n, s)) (flat_map text (take (suc e) (enumerate_from (n + 1) parts))),
        length-append (text (n, s)) (flat_map text (take e (enumerate_from (n + 1) parts))),
      )

fewer : {A : Type 0} (text : A → List ℕ) (n : ℕ) (xs : List A)
    → length (flat_map text (take n xs)) ≤ length (flat_map text xs)
fewer text zero xs = omega arith
fewer text (suc n) [] = omega arith
fewer text (suc n) (x ∷ xs) = let later = fewer text n xs in
    omega (arith, later, length-append (text x) (flat_map text (take n xs)), length-append (text x) (flat_map text xs))

plus_one : (e : ℕ) → e + 1 ≡ suc e
plus_one e = omega arith

-- ---- the parts of a trace

-- the last reply sent ends within the trace
sent_ends : (t : Trace) → sent_start t + length (flat_map (λ s. frame_text (OfSent s)) t.sent) ≤ length_of t
unfolding length_of frames_of
sent_ends t =
    let customers : List Frame = map OfCustomer t.customers in
    let batches : List Frame = map (λ b. OfBatch b.0 b.1) (batches_of t) in
    let sections : List Frame = flat_map section_frames (sections_of t) in
    let verifiers : List Frame = flat_map verifier_frames (verifiers_of t) in
    let sent : List Frame = map OfSent t.sent in
    let end : List Frame = End ∷ [] in
    summed _ _ _ _ _ _ _ _ _ _ _ _ _ _ _ _
    (length-frames_text customers (batches ++ (sections ++ (verifiers ++ (sent ++ end)))))
    (length-frames_text batches (sections ++ (verifiers ++ (sent ++ end))))
    (length-frames_text sections (verifiers ++ (sent ++ end))) (length-frames_text verifiers (sent ++ end))
    (length-frames_text sent end)
    (ap length (flat_map-map frame_text OfCustomer t.customers))
    (ap length (flat_map-map frame_text (λ (b : ℕ × Batch). OfBatch b.0 b.1) (batches_of t)))
    (ap length (frames_text-flat_map section_frames (sections_of t)))
    (ap length (frames_text-flat_map verifier_frames (verifiers_of t)))
    (ap length (flat_map-map frame_text OfSent t.sent))
  where
    summed : (c b s v m c' b' s' v' m' end whole behind_c behind_b behind_s behind_v : ℕ) → whole ≡ c + behind_c
        → behind_c ≡ b + behind_b → behind_b ≡ s + behind_s → behind_s ≡ v + behind_v → behind_v ≡ m + end
        → c ≡ c' → b ≡ b' → s ≡ s' → v ≡ v' → m ≡ m' → 32 + c' + b' + s' + v' + m' ≤ 32 + whole
    summed c b s v m c' b' s' v' m' end whole behind_c behind_b behind_s behind_v p q r u w x y z k l = omega arith

module _ (t : Trace) where
  customers_stand : AllByRecursion (λ c. LiesBetween 32 (batches_start t) c.0 (length (customer_text c.1)))
      (customers_at t)
  unfolding customers_at
  customers_stand = all_located customer_text 32 t.customers

  batches_stand : AllByRecursion
      (λ b. LiesBetween (batches_start t) (batches_start t + length (flat_map batch_text (batches_of t))) b.0
      (length (batch_text b.1))) (batches_at t)
  unfolding batches_at
  batches_stand = all_located batch_text (batches_start t) (batches_of t)

  steps_stand : (e : ℕ) → AllByRecursion
      (λ s. LiesBetween (section_start t e) (section_start t (e + 1)) s.0 (length (step_text s.1))) (steps_at t e)
  unfolding steps_at
  steps_stand e = elim (cases_lt e (length t.sections)) [
    | inl lt ↦
        let here : 0 + e ≡ e = omega arith in
        let more = prefix_more section_text 0 e t.sections lt in
        let own : length (section_text (0 + e, steps_of t e)) ≡ length (section_text (e, steps_of t e)) =
        ap (λ (m : ℕ). length (section_text (m, steps_of t e))) here in
        let is = section_is e (steps_of t e) in
        within step_text (section_start t e + length (frame_text (OfReplica e))) (section_start t e)
        (section_start t (e + 1)) (steps_of t e) (omega arith)
        (omega (arith, more, own, is, ap (section_start t) (plus_one e)))
    | inr le ↦
        subst (λ (ss : List _). AllByRecursion
        (λ s. LiesBetween (section_start t e) (section_start t (e + 1)) s.0 (length (step_text s.1)))
        (located step_text (section_start t e + length (frame_text (OfReplica e))) ss))
        (sym (get_or_past t.sections e [] le)) tt
  ]

  votes_are : (v : ℕ) (ws : List Vote) → length (votes_text (v, ws)) ≡ length (frame_text (OfVerifier v)) + length
      (flat_map (λ w. frame_text (OfVote w)) ws)
  votes_are v ws = length-append (frame_text (OfVerifier v)) (flat_map frame_text (map OfVote ws))
      ∙ ap (λ (b : List ℕ). length (frame_text (OfVerifier v)) + length b) (flat_map-map frame_text OfVote ws)

  votes_stand : (v : ℕ) → AllByRecursion
      (λ w. LiesBetween (verifiers_start t) (sent_start t) w.0 (length (frame_text (OfVote w.1)))) (votes_at t v)
  unfolding votes_at
  votes_stand v = elim (cases_lt v (length t.verifiers)) [
    | inl lt ↦
        let here : 0 + v ≡ v = omega arith in
        let more = prefix_more votes_text 0 v t.verifiers lt in
        let own : length (votes_text (0 + v, votes_of t v)) ≡ length (votes_text (v, votes_of t v)) =
        ap (λ (m : ℕ). length (votes_text (m, votes_of t v))) here in
        let parts = votes_are v (votes_of t v) in
        let all = fewer votes_text (suc v) (verifiers_of t) in
        within (λ w. frame_text (OfVote w)) (verifier_start t v + length (frame_text (OfVerifier v)))
        (verifiers_start t) (sent_start t) (votes_of t v) (omega arith) (omega (arith, more, own, parts, all))
    | inr le ↦
        subst (λ (ws : List Vote). AllByRecursion
        (λ w. LiesBetween (verifiers_start t) (sent_start t) w.0 (length (frame_text (OfVote w.1))))
        (located (λ w. frame_text (OfVote w)) (verifier_start t v + length (frame_text (OfVerifier v))) ws))
        (sym (get_or_past t.verifiers v [] le)) tt
  ]

  sent_stand : AllByRecursion
      (λ s. LiesBetween (sent_start t) (length_of t) s.0 (length (frame_text (OfSent s.1)))) (sent_at t)
  unfolding sent_at
  sent_stand = let from : sent_start t ≤ sent_start t = omega arith in
      within (λ s. frame_text (OfSent s)) (sent_start t) (sent_start t) (length_of t) t.sent from (sent_ends t)

accesses_stand : (at : ℕ) (a : Attempt) → AllByRecursion
    (λ x. LiesBetween at (at + length (step_text (Attempts a))) x.0 (length (frame_text (OfAccess x.1))))
    (accesses_at at a)
accesses_stand at a =
    let long : length (step_text (Attempts a)) ≡ length (frame_text (AttemptFrame a)) + length
    (flat_map (λ x. frame_text (OfAccess x)) a.accesses) =
    length-append (frame_text (AttemptFrame a)) (flat_map frame_text (map OfAccess a.accesses))
    ∙ ap (λ (b : List ℕ). length (frame_text (AttemptFrame a)) + length b)
    (flat_map-map frame_text OfAccess a.accesses) in
    within (λ x. frame_text (OfAccess x)) (at + length (frame_text (AttemptFrame a))) at
    (at + length (step_text (Attempts a))) a.accesses (omega arith) (omega (arith, long))

pub stand_in_order : (t : Trace) → StandInOrder t
stand_in_order t = record {
  customers = customers_stand t;
  batches = batches_stand t;
  sections = λ e. (let rise = prefix_rises section_text 0 e t.sections in
      omega (arith, rise, ap (section_start t) (plus_one e)));
  last_section = λ e. (let all = fewer section_text e (sections_of t) in omega (arith, all));
  steps = steps_stand t;
  accesses = accesses_stand;
  votes = votes_stand t;
  sent = sent_stand t;
  end = (let ends = sent_ends t in omega (arith, ends));
}
