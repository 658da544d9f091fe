-- In which section the frames of a replica stand.
use Rattle.std.proofs.Common.{◌≡◌, ℕ, zero, suc, ◌+◌, ◌-◌, ◌<◌, ◌≤◌, inl, inr, List, [], ◌∷◌, ◌++◌, length}
use Rattle.std.proofs.Common.{map, ap, subst, arith}
use Rattle.std.specs.List.{AllByRecursion}
use Rattle.std.proofs.lemmas.Bool.{cases_lt}
use Rattle.std.proofs.lemmas.List.{length-append}
use Rattle.std.specs.Int.{bytes_high_first}
use Rattle.eve_grammar.specs.Trace.{Access, Attempt, Step, Attempts, Commits, RollsBack, Transfers, Trace}
use Rattle.eve_grammar.specs.Frames.{Frame, OfAttempt as AttemptFrame, OfAccess, OfCommit, OfRollback}
use Rattle.eve_grammar.specs.Frames.{OfTransfer}
use Rattle.eve_grammar.specs.Frames.{kind_of, without_accesses}
use Rattle.eve_grammar.specs.Spelling.{body_text, frame_text, frames_text, step_text, section_start, steps_at}
use Rattle.eve_grammar.specs.Spelling.{accesses_at}
use Rattle.eve_views.specs.inner.PartPlaces.{LiesBetween, StandInOrder}
use Rattle.eve_history.specs.inner.AmongSteps.{IsStepOf}
use Rattle.eve_audit.proofs.Sections.{LiesIn}
use Rattle.eve_audit.proofs.NumberLaws.{each_at}

-- ---- what holds of all holds at some place

module _ {A : Type 0} (P : A → Type 0) where
  pub at_place : (xs before : List A) (item : A) (rest : List A) → xs ≡ before ++ item ∷ rest → AllByRecursion P xs
      → P item
  at_place xs before item rest is all = by before (subst (AllByRecursion P) is all)
    where
      by : (before : List A) → AllByRecursion P (before ++ item ∷ rest) → P item
      by [] all = all.0
      by (x ∷ before) all = by before all.1

-- ---- each frame has bytes

some_text : (x : ℕ) (xs : List ℕ) → 1 ≤ length (x ∷ xs)
some_text x xs = omega arith

pub frame_has_text : (f : Frame) → 1 ≤ length (frame_text f)
frame_has_text f = some_text (kind_of f) (bytes_high_first 4 (length (body_text f)) ++ body_text f)

first_has_text : (f : Frame) (fs : List Frame) → 1 ≤ length (frames_text (f ∷ fs))
first_has_text f fs = (let some = frame_has_text f in
    omega (arith, some, length-append (frame_text f) (frames_text fs)))

step_has_text : (s : Step) → 1 ≤ length (step_text s)
step_has_text (Attempts a) = first_has_text (AttemptFrame (without_accesses a)) (map OfAccess a.accesses)
step_has_text (Commits c) = first_has_text (OfCommit c) []
step_has_text (RollsBack r) = first_has_text (OfRollback r) []
step_has_text (Transfers x) = first_has_text (OfTransfer x) []

module _ (t : Trace) (parts : StandInOrder t) where
  -- ---- an offset lies in one section only

  starts_rise_by : (e more : ℕ) → section_start t e ≤ section_start t (e + more)
  starts_rise_by e zero = let same : e + 0 ≡ e = omega arith in omega (arith, ap (section_start t) same)
  starts_rise_by e (suc more) =
      let same : e + suc more ≡ e + more + 1 = omega arith in
      let one = starts_rise_by e more in
      let two = parts.sections (e + more) in
      omega (arith, ap (section_start t) same, one, two)

  below : (e other : ℕ) → e < other → section_start t (e + 1) ≤ section_start t other
  below e other lt =
      let same : e + 1 + (other - (e + 1)) ≡ other = omega (arith, lt) in
      omega (arith, starts_rise_by (e + 1) (other - (e + 1)), ap (section_start t) same)

  pub one_section : (e other at : ℕ) → LiesIn t e at → LiesIn t other at → e ≡ other
  one_section e other at one two = elim (cases_lt e other) [
    | inl lt ↦ (let le = below e other lt in absurd (omega (arith, le, one.1, two.0)))
    | inr le ↦ elim (cases_lt other e) [
      | inl lt ↦ (let over = below other e lt in absurd (omega (arith, over, two.1, one.0)))
      | inr other_le ↦ omega (arith, le, other_le)
    ]
  ]

  -- ---- the frames of a section

  module _ (e : ℕ) where
    -- a step lies in the section, as a whole
    abbrev StepIn : ℕ × Step → Type 0
    StepIn x = LiesBetween (section_start t e) (section_start t (e + 1)) x.0 (length (step_text x.1))

    starts_in : (x : ℕ × Step) → StepIn x → LiesIn t e x.0
    starts_in x within = let some = step_has_text x.1 in (within.0, omega (arith, within.1, some))

    pub step_in : (before : List (ℕ × Step)) (item : ℕ × Step) (rest : List (ℕ × Step)) → steps_at t e
        ≡ before ++ item ∷ rest → LiesIn t e item.0
    step_in before item rest is =
        starts_in item (at_place StepIn (steps_at t e) before item rest is (parts.steps e))

    whole_step : (at : ℕ) (step : Step) → IsStepOf t e at step → StepIn (at, step)
    whole_step at step found = each_at StepIn (steps_at t e) found.0 (at, step) (parts.steps e) found.1

    pub step_of : (at : ℕ) (step : Step) → IsStepOf t e at step → LiesIn t e at
    step_of at step found = starts_in (at, step) (whole_step at step found)

    -- where an access record of an attempt stands
    access_within : (at : ℕ) (a : Attempt) → StepIn (at, Attempts a)
        → (before : List (ℕ × Access)) (item : ℕ × Access) (rest : List (ℕ × Access)) → accesses_at at a
        ≡ before ++ item ∷ rest → LiesIn t e item.0
    access_within at a step before item rest is =
        let within =
        at_place (λ x. LiesBetween at (at + length (step_text (Attempts a))) x.0 (length (frame_text (OfAccess x.1))))
        (accesses_at at a) before item rest is (parts.accesses at a) in
        let some = frame_has_text (OfAccess item.1) in
        (omega (arith, step.0, within.0), omega (arith, step.1, within.1, some))

    pub access_in : (steps_before : List (ℕ × Step)) (at : ℕ) (a : Attempt) (steps_rest : List (ℕ × Step))
        → steps_at t e ≡ steps_before ++ (at, Attempts a) ∷ steps_rest
        → (before : List (ℕ × Access)) (item : ℕ × Access) (rest : List (ℕ × Access)) → accesses_at at a
        ≡ before ++ item ∷ rest → LiesIn t e item.0
    access_in steps_before at a steps_rest step =
        access_within at a
        (at_place StepIn (steps_at t e) steps_before (at, Attempts a) steps_rest step (parts.steps e))

    pub access_of : (at : ℕ) (a : Attempt) → IsStepOf t e at (Attempts a)
        → (before : List (ℕ × Access)) (item : ℕ × Access) (rest : List (ℕ × Access)) → accesses_at at a
        ≡ before ++ item ∷ rest → LiesIn t e item.0
    access_of at a step = access_within at a (whole_step at (Attempts a) step)
