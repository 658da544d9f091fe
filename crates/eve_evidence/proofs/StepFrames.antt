-- From the frames of a step to the step.
use Rattle.std.proofs.Common.{◌≡◌, ℕ, List, inl, inr, sym, subst, ap, ◌∙◌}
use Rattle.eve_grammar.specs.Trace.{Access, Attempt, Attempts, Commits, RollsBack, Transfers, Trace}
use Rattle.eve_grammar.specs.Frames.{without_accesses}
use Rattle.eve_grammar.specs.Spelling.{accesses_at}
use Rattle.eve_frames.specs.Decoded.{attempt_decoded}
use Rattle.eve_frames.specs.declared.attempt.AttemptView.{AttemptView}
use Rattle.eve_views.specs.declared.fault.Code.{Code}
use Rattle.eve_views.specs.declared.fault.Code.TheVariants as code
use Rattle.eve_views.specs.declared.steps.Step as step_read
use Rattle.eve_views.specs.declared.steps.Step.TheVariants as of
use Rattle.eve_views.specs.Form.{SomePlace}
use Rattle.eve_history.specs.Section.{SectionState}
use Rattle.eve_evidence.specs.declared.course.Course.{Course}
use Rattle.eve_evidence.specs.declared.evidence.Evidence.{Evidence}
use Rattle.eve_evidence.specs.Course.{IsCourse}
use Rattle.eve_evidence.specs.inner.Places.{ToldAlong, NoneAlong, ToldAtStep, NoneAtStep}
use Rattle.eve_evidence.specs.Section.{WrongAttempt, WrongAccess, TellsAccess}

-- an attempt's own frame says nothing of its access records
as_decoded : (c : Code) (t : Trace) (s : SectionState) (a : Attempt) → WrongAttempt c t s a
    → WrongAttempt c t s (without_accesses a)
as_decoded code.Attempt t s a w = w
as_decoded _ t s a w = w

module _ (c : Code) (t : Trace) (place : ℕ) (course : Course) where
  module _ (attempt : AttemptView) (xs : List (ℕ × Access)) where
    told_here : (x : Evidence) → ToldAlong c t place course attempt xs x
        → ToldAtStep c t place course (of.Attempt attempt xs) x
    told_here x told s (at, Attempts a) course_is stands =
        let here : xs ≡ accesses_at attempt.offset a = stands.2 ∙ ap (λ (n : ℕ). accesses_at n a) (sym stands.0) in
        let found = told s a course_is stands.1 here in
        inr (subst (λ (n : ℕ). SomePlace (accesses_at n a) (λ own y. (y.0 ≡ place) × TellsAccess c t s n a own y x))
        stands.0
        (subst (λ (ys : List (ℕ × Access)). SomePlace ys (λ own y. (y.0 ≡ place)
        × TellsAccess c t s attempt.offset a own y x)) here found))
    told_here x told s (at, Commits d) course_is stands = elim stands [ ]
    told_here x told s (at, RollsBack r) course_is stands = elim stands [ ]
    told_here x told s (at, Transfers y) course_is stands = elim stands [ ]

    none_here : ((s : SectionState) → IsCourse s course → attempt.offset ≡ place
        → ¬ WrongAttempt c t s (attempt_decoded attempt))
        → NoneAlong c t place course attempt xs → NoneAtStep c t place course (of.Attempt attempt xs)
    none_here own none s (at, Attempts a) course_is stands fault =
        let here : xs ≡ accesses_at attempt.offset a = stands.2 ∙ ap (λ (n : ℕ). accesses_at n a) (sym stands.0) in
        elim fault [
          | inl f ↦ own s course_is (stands.0 ∙ f.0)
              (subst (WrongAttempt c t s) (sym stands.1) (as_decoded c t s a f.1))
          | inr f ↦ none s a course_is stands.1 here
              (subst (λ (ys : List (ℕ × Access)). SomePlace ys (λ own y. (y.0 ≡ place)
              × WrongAccess c t s attempt.offset a own y.1)) (sym here)
              (subst (λ (n : ℕ). SomePlace (accesses_at n a) (λ own y. (y.0 ≡ place) × WrongAccess c t s n a own y.1))
              (sym stands.0) f))
        ]
    none_here own none s (at, Commits d) course_is stands fault = elim stands [ ]
    none_here own none s (at, RollsBack r) course_is stands fault = elim stands [ ]
    none_here own none s (at, Transfers x) course_is stands fault = elim stands [ ]

    pub told_at_step : (step : step_read.Step) → step ≡ of.Attempt attempt xs → (x : Evidence)
        → ToldAlong c t place course attempt xs x
        → ToldAtStep c t place course step x
    told_at_step step is x told = subst (λ (u : step_read.Step). ToldAtStep c t place course u x) (sym is)
        (told_here x told)

    pub none_at_step : (step : step_read.Step) → step ≡ of.Attempt attempt xs
        → ((s : SectionState) → IsCourse s course → attempt.offset ≡ place → ¬ WrongAttempt c t s
        (attempt_decoded attempt))
        → NoneAlong c t place course attempt xs → NoneAtStep c t place course step
    none_at_step step is own none = subst (NoneAtStep c t place course) (sym is) (none_here own none)
