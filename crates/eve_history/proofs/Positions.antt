-- Faults stand within the trace.
use Rattle.std.proofs.Common.{◌≡◌, ℕ, zero, suc, ◌+◌, ◌<◌, ◌≤◌, List, [], ◌∷◌, ◌++◌, map, length, take, refl, sym, ap}
use Rattle.std.proofs.Common.{subst, ◌∙◌, inl, inr, arith}
use Rattle.std.specs.Prelude.{IsTrue, IsFalse, slice_index_or}
use Rattle.std.specs.List.{flat_map, enumerate_from}
use Rattle.std.proofs.lemmas.Bool.{cases_lt}
use Rattle.std.proofs.lemmas.List.{length-append, get_or_past}
use Rattle.std.proofs.lemmas.List.Concat.{flat_map-append}
use Rattle.std.proofs.lemmas.List.Folds.{flat_map-map}
use Rattle.eve_grammar.specs.Trace.{Batch, Access, Attempt, Step, Attempts, Commits, RollsBack, Transfers, Trace}
use Rattle.eve_grammar.specs.Frames.{Frame, OfCustomer, OfBatch, OfReplica, OfAttempt as AttemptFrame, OfAccess}
use Rattle.eve_grammar.specs.Frames.{batches_of, sections_of, verifiers_of, section_frames}
use Rattle.eve_grammar.specs.Frames.{verifier_frames, OfSent, End, frames_of}
use Rattle.eve_grammar.specs.Spelling.{frame_text, located, customer_text, batch_text, step_text, section_text}
use Rattle.eve_grammar.specs.Spelling.{batches_start, sections_start, section_start, length_of}
use Rattle.eve_grammar.specs.Spelling.{batches_at, steps_of, steps_at, accesses_at}
use Rattle.eve_views.specs.declared.fault.Code.{Code}
use Rattle.eve_views.specs.declared.fault.Code.TheVariants as code
use Rattle.eve_views.specs.declared.fault.Fault.{Fault}
use Rattle.eve_grammar.specs.Accesses.{is_right_place}
use Rattle.eve_history.specs.Section.{SectionState, start, state_after, is_right_attempt, is_right_certificate}
use Rattle.eve_history.specs.Section.{is_right_access, is_right_commit, is_right_rollback, are_right_accesses}
use Rattle.eve_history.specs.Section.{is_right_transfer, are_right}
use Rattle.eve_views.specs.Form.{SomePlace, IsFaultOutside, IsFaultIn}
use Rattle.eve_views.proofs.FrameOffsets.{section_is}
use Rattle.eve_history.specs.Structure.{accesses_of, OfAttempt, OfCommit, OfRollback, OfTransfer, AtStep, AtAccess}
use Rattle.eve_history.specs.Structure.{StandsInStructure}
use Rattle.eve_history.specs.Order.{IsAskedAgain, StandsInOrders}
use Rattle.eve_history.proofs.Places.{located_within, weaker_place}
use Rattle.eve_history.proofs.OrderLaws.{customers_within}

-- the whole is as long as the shared parts and what follows them
sections_within : (t : Trace) → sections_start t ≤ length_of t
unfolding length_of frames_of
sections_within t =
    let customers = map OfCustomer t.customers in
    let batches = map (λ b. OfBatch b.0 b.1) (batches_of t) in
    let more : List Frame = flat_map section_frames (sections_of t) ++
    (flat_map verifier_frames (verifiers_of t) ++ (map OfSent t.sent ++ End ∷ [])) in
    longer (length (flat_map customer_text t.customers)) (length (flat_map batch_text (batches_of t))) _ _ _
    (ap length (flat_map-append frame_text customers (batches ++ more))
    ∙ length-append (flat_map frame_text customers) (flat_map frame_text (batches ++ more))
    ∙ ap (λ (n : ℕ). n + length (flat_map frame_text (batches ++ more)))
    (ap length (flat_map-map frame_text OfCustomer t.customers)))
    (ap length (flat_map-append frame_text batches more)
    ∙ length-append (flat_map frame_text batches) (flat_map frame_text more)
    ∙ ap (λ (n : ℕ). n + length (flat_map frame_text more))
    (ap length (flat_map-map frame_text (λ (b : ℕ × Batch). OfBatch b.0 b.1) (batches_of t))))
  where
    longer : (a b whole behind last : ℕ) → whole ≡ a + behind → behind ≡ b + last → 32 + a + b ≤ 32 + whole
    longer a b whole behind last e f = omega arith

batch_within : (t : Trace) (at : ℕ) → StandsInOrders code.SameRequest t at → at ≤ sections_start t
unfolding batches_at
batch_within t at again = located_within IsAskedAgain batch_text (batches_start t) at (batches_of t) again

pub order_fault_within : (t : Trace) (f : Fault) → IsFaultOutside StandsInOrders t f → f.offset ≤ length_of t
order_fault_within t f is = by f.code is.stands
  where
    by : (c : Code) → StandsInOrders c t f.offset → f.offset ≤ length_of t
    by code.SameName stands = let one = customers_within t f.offset stands in let two = sections_within t in omega arith
    by code.SameRequest stands = let one = batch_within t f.offset stands in let two = sections_within t in omega arith
    by c stands = absurd stands

-- ---- in sections

-- what is located ends within
ends_within : {A : Type 0} (text : A → List ℕ) (at : ℕ) (xs : List A) (before : List (ℕ × A)) (item : ℕ × A)
    (rest : List (ℕ × A)) → located text at xs ≡ before ++ item ∷ rest
    → item.0 + length (text item.1) ≤ at + length (flat_map text xs)
ends_within {A = A} text at [] before item rest e = absurd (none before e)
  where
    none : (b : List (ℕ × A)) → ◌≡◌ {A = List (ℕ × A)} [] (b ++ item ∷ rest) → ⊥
    none [] e = cc
    none (z ∷ b) e = cc
ends_within {A = A} text at (x ∷ xs) [] item rest e =
    let same : (at, x) ≡ item = first (at, x) item (located text (at + length (text x)) xs) rest e in
    subst (λ (y : ℕ × A). y.0 + length (text y.1) ≤ at + length (text x ++ flat_map text xs)) same
    (omega (arith, length-append (text x) (flat_map text xs)))
  where
    first : (y z : ℕ × A) (ys zs : List (ℕ × A)) → ◌≡◌ {A = List (ℕ × A)} (y ∷ ys) (z ∷ zs) → y ≡ z
    first y z ys zs e = cc
ends_within {A = A} text at (x ∷ xs) (z ∷ before) item rest e =
    let later = ends_within text (at + length (text x)) xs before item rest
    (others (at, x) z (located text (at + length (text x)) xs) (before ++ item ∷ rest) e) in
    omega (arith, length-append (text x) (flat_map text xs))
  where
    others : (y z : ℕ × A) (ys zs : List (ℕ × A)) → ◌≡◌ {A = List (ℕ × A)} (y ∷ ys) (z ∷ zs) → ys ≡ zs
    others y z ys zs e = cc

-- a section that is there ends within all of them
section_within : (n e : ℕ) (secs : List (List Step)) → e < length secs
    → length (flat_map section_text (take e (enumerate_from n secs))) + length
    (section_text (n + e, slice_index_or secs e [])) ≤ length (flat_map section_text (enumerate_from n secs))
section_within n e [] lt = absurd (omega arith)
section_within n zero (s ∷ secs) lt =
    let same : n + 0 ≡ n = omega arith in
    let one : length (section_text (n + 0, s)) ≡ length (section_text (n, s)) =
    ap (λ (m : ℕ). length (section_text (m, s))) same in
    omega (arith, one, length-append (section_text (n, s)) (flat_map section_text (enumerate_from (n + 1) secs)))
section_within n (suc e) (s ∷ secs) lt =
    let same : n + suc e ≡ n + 1 + e = omega arith in
    let one : length (section_text (n + suc e, slice_index_or secs e []))
    ≡ length (section_text (n + 1 + e, slice_index_or secs e [])) =
    ap (λ (m : ℕ). length (section_text (m, slice_index_or secs e []))) same in
    let later = section_within (n + 1) e secs (omega arith) in
    omega (
      arith,
      one,
      later,
      length-append (section_text (n, s))
          (flat_map section_text (take e (enumerate_from (n + 1) secs))),
      length-append (section_text (n, s))
          (flat_map section_text (enumerate_from (n + 1) secs)),
    )

module _ (t : Trace) (e : ℕ) where
  section_ends : e < length t.sections → section_start t e + length (frame_text (OfReplica e)) + length
      (flat_map step_text (steps_of t e)) ≤ length_of t
  unfolding length_of frames_of
  section_ends lt =
      let customers = map OfCustomer t.customers in
      let batches = map (λ b. OfBatch b.0 b.1) (batches_of t) in
      let sections = flat_map section_frames (sections_of t) in
      let last : List Frame = flat_map verifier_frames (verifiers_of t) ++ (map OfSent t.sent ++ End ∷ []) in
      let here : 0 + e ≡ e = omega arith in
      let one = section_within 0 e t.sections lt in
      let own : length (section_text (0 + e, steps_of t e)) ≡ length (section_text (e, steps_of t e)) =
      ap (λ (m : ℕ). length (section_text (m, steps_of t e))) here in
      longer (length (flat_map customer_text t.customers)) (length (flat_map batch_text (batches_of t)))
      (length (flat_map section_text (sections_of t))) _ _ _ _
      (length (flat_map section_text (take e (sections_of t)))) (length (frame_text (OfReplica e)))
      (length (flat_map step_text (steps_of t e)))
      (ap length (flat_map-append frame_text customers (batches ++ (sections ++ last)))
      ∙ length-append (flat_map frame_text customers) (flat_map frame_text (batches ++ (sections ++ last)))
      ∙ ap (λ (n : ℕ). n + length (flat_map frame_text (batches ++ (sections ++ last))))
      (ap length (flat_map-map frame_text OfCustomer t.customers)))
      (ap length (flat_map-append frame_text batches (sections ++ last))
      ∙ length-append (flat_map frame_text batches) (flat_map frame_text (sections ++ last))
      ∙ ap (λ (n : ℕ). n + length (flat_map frame_text (sections ++ last)))
      (ap length (flat_map-map frame_text (λ (b : ℕ × Batch). OfBatch b.0 b.1) (batches_of t))))
      (ap length (flat_map-append frame_text sections last)
      ∙ length-append (flat_map frame_text sections) (flat_map frame_text last)
      ∙ ap (λ (n : ℕ). n + length (flat_map frame_text last)) (ap length (sections_are (sections_of t))))
      (omega (arith, one, own, section_is e (steps_of t e)))
    where
      sections_are : (xs : List (ℕ × List Step)) → flat_map frame_text (flat_map section_frames xs)
          ≡ flat_map section_text xs
      sections_are [] = refl
      sections_are (x ∷ xs) = flat_map-append frame_text (section_frames x) (flat_map section_frames xs)
          ∙ ap (λ (b : List ℕ). section_text x ++ b) (sections_are xs)

      longer : (a b s whole behind more last prefix own steps : ℕ) → whole ≡ a + behind → behind ≡ b + more
          → more ≡ s + last → prefix + (own + steps) ≤ s → 32 + a + b + prefix + own + steps ≤ 32 + whole
      longer a b s whole behind more last prefix own steps p q r le = omega arith

  step_within : (P : List (ℕ × Step) → ℕ × Step → Type 0) → (place : SomePlace (steps_at t e) P)
      → place.item.0 + length (step_text place.item.1) ≤ length_of t
  unfolding steps_at
  step_within P place = elim (cases_lt e (length t.sections)) [
    | inl lt ↦
        let one = ends_within step_text (section_start t e + length (frame_text (OfReplica e)))
        (steps_of t e) place.before place.item place.rest place.is in
        let two = section_ends lt in
        omega arith
    | inr ge ↦ absurd (none place.before
        (ap (located step_text (section_start t e + length (frame_text (OfReplica e))))
        (sym (get_or_past t.sections e [] ge))
        ∙ place.is))
  ]
    where
      none : (b : List (ℕ × Step)) → ◌≡◌ {A = List (ℕ × Step)} [] (b ++ place.item ∷ place.rest) → ⊥
      none [] e = cc
      none (z ∷ b) e = cc

  at_step_within : (at : ℕ) (P : SectionState → Step → Type 0) → AtStep t e at P
      → at ≤ length_of t
  at_step_within at P place =
      let one = step_within (λ before step. IsTrue (are_right t start before)
      × ((step.0 ≡ at) × P (state_after start before) step.1)) place in
      let is : place.item.0 ≡ at = place.holds.1.0 in
      omega arith

  -- an access frame lies in its attempt's step
  access_within : (offset at : ℕ) (a : Attempt) (P : List (ℕ × Access) → ℕ × Access → Type 0)
      → SomePlace (accesses_at offset a) (λ b x. (x.0 ≡ at) × P b x) → at ≤ offset + length (step_text (Attempts a))
  access_within offset at a P place =
      let one = located_within P (λ x. frame_text (OfAccess x)) (offset + length (frame_text (AttemptFrame a))) at
      a.accesses place in
      let two : length (step_text (Attempts a)) ≡ length (frame_text (AttemptFrame a)) + length
      (flat_map (λ x. frame_text (OfAccess x)) a.accesses) =
      length-append (frame_text (AttemptFrame a)) (flat_map frame_text (map OfAccess a.accesses))
      ∙ ap (λ (b : List ℕ). length (frame_text (AttemptFrame a)) + length b)
      (flat_map-map frame_text OfAccess a.accesses) in
      omega arith

  at_access_within : (at : ℕ) (P : Attempt → List Access → Access → Type 0)
      → AtAccess t e at P → at ≤ length_of t
  at_access_within at P place = by place.item.1 refl place.holds.1
    where
      bounded : (o m n at len : ℕ) → o + m ≤ len → m ≡ n → at ≤ o + n → at ≤ len
      bounded o m n at len ends same le = omega arith

      by : (step : Step) → place.item.1 ≡ step
          → OfAttempt step (λ a. IsTrue (is_right_attempt t (state_after start place.before) a)
          × IsTrue (is_right_certificate t a)
          × SomePlace (accesses_at place.item.0 a) (λ before x. IsTrue (are_right_accesses t a [] (accesses_of before))
          × ((x.0 ≡ at) × P a (accesses_of before) x.1)))
          → at ≤ length_of t
      by (Attempts a) is h =
          bounded place.item.0 (length (step_text place.item.1)) (length (step_text (Attempts a))) at (length_of t)
          (step_within (λ before step. IsTrue (are_right t start before) × OfAttempt step.1 (λ a.
          IsTrue (is_right_attempt t (state_after start before) a) × IsTrue (is_right_certificate t a)
          × SomePlace (accesses_at step.0 a) (λ own x. IsTrue (are_right_accesses t a [] (accesses_of own))
          × ((x.0 ≡ at) × P a (accesses_of own) x.1)))) place) (ap (λ (s : Step). length (step_text s)) is)
          (access_within place.item.0 at a (λ b x. P a (accesses_of b) x.1)
          (weaker_place (λ b x. IsTrue (are_right_accesses t a [] (accesses_of b))
          × ((x.0 ≡ at) × P a (accesses_of b) x.1)) (λ b x. (x.0 ≡ at) × P a (accesses_of b) x.1)
          (accesses_at place.item.0 a) (λ b x k. k.1) h.2))
      by (Commits c) is h = absurd h
      by (RollsBack r) is h = absurd h
      by (Transfers x) is h = absurd h

pub structure_fault_within : (t : Trace) (e : ℕ) (f : Fault) → IsFaultIn StandsInStructure t e f
    → f.offset ≤ length_of t
structure_fault_within t e f is = by f.code is.stands
  where
    by : (c : Code) → StandsInStructure c t e f.offset → f.offset ≤ length_of t
    by code.Attempt stands =
        at_step_within t e f.offset (λ s step. OfAttempt step (λ a. IsFalse (is_right_attempt t s a))) stands
    by code.Certificate stands =
        at_step_within t e f.offset (λ s step. OfAttempt step (λ a. IsFalse (is_right_certificate t a))) stands
    by code.Access stands = at_access_within t e f.offset (λ a before x. IsFalse (is_right_access t a before x)) stands
    by code.WorkerOrder stands = at_access_within t e f.offset (λ a before x. IsFalse (is_right_place before x)) stands
    by code.Commit stands = at_step_within t e f.offset (λ s step. OfCommit step (λ d. IsFalse (is_right_commit s d)))
        stands
    by code.Rollback stands =
        at_step_within t e f.offset (λ s step. OfRollback step (λ r. IsFalse (is_right_rollback t s r))) stands
    by code.Transfer stands =
        at_step_within t e f.offset (λ s step. OfTransfer step (λ x. IsFalse (is_right_transfer t s x))) stands
    by c stands = absurd stands
