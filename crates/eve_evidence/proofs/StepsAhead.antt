-- A fault that stands ahead in a section's steps, while they come.
use Rattle.std.proofs.Common.{◌≡◌, ℕ, Option, List, [], ◌∷◌, ◌++◌, refl, sym, subst, ◌∙◌, inl, inr, append_assoc}
use Rattle.eve_grammar.specs.Trace.{Step, Attempts, Commits, RollsBack, Transfers, Trace}
use Rattle.eve_grammar.specs.Spelling.{steps_at}
use Rattle.eve_views.specs.declared.fault.Code.{Code}
use Rattle.eve_views.specs.Form.{SomePlace}
use Rattle.eve_history.specs.Section.{SectionState, start, next, state_after}
use Rattle.eve_history.proofs.Places.{place_cases, no_place}
use Rattle.eve_history.proofs.StructureLaws.{state_after-append}
use Rattle.eve_evidence.specs.declared.course.Course.{Course}
use Rattle.eve_evidence.specs.declared.evidence.Evidence.{Evidence}
use Rattle.eve_evidence.specs.declared.evidence.Evidence.TheVariants as shown
use Rattle.eve_evidence.specs.declared.evidence.SeenFrom.{SeenFrom}
use Rattle.eve_evidence.specs.declared.evidence.ToldAttempt.{ToldAttempt}
use Rattle.eve_evidence.specs.declared.evidence.ToldRequest.{ToldRequest}
use Rattle.eve_evidence.specs.declared.evidence.WrongEntry.{WrongEntry}
use Rattle.eve_evidence.specs.Course.{IsCourse}
use Rattle.eve_evidence.specs.Section.{StandsAtStep, StandsAlong, TellsStep, TellsSeen}

-- These steps are still to come. The section has come to the state that is kept, and the fault stands at one of them.
pub record Goes (c : Code) (t : Trace) (e place : ℕ) (rest : List (ℕ × Step)) (course : Course) : Type 0 where
  pub prefix : List (ℕ × Step)
  pub split : steps_at t e ≡ prefix ++ rest
  pub is : IsCourse (state_after start prefix) course
  pub ahead : SomePlace rest (λ before step. StandsAtStep c t place (state_after (state_after start prefix) before)
      step)

pub goes_first : (c : Code) (t : Trace) (e place : ℕ) (course : Course) → IsCourse start course
    → StandsAlong c t e place → Goes c t e place (steps_at t e) course
goes_first c t e place course is stands = record { prefix = []; split = refl; is = is; ahead = stands }

-- no step is left where a fault is to come
pub goes_no_further : (c : Code) (t : Trace) (e place : ℕ) (course : Course) → Goes c t e place [] course → ⊥
goes_no_further c t e place course goes = no_place _ goes.ahead

module _ (c : Code) (t : Trace) (e place : ℕ) (step : ℕ × Step) (rest : List (ℕ × Step)) (course after : Course)
    (goes : Goes c t e place (step ∷ rest) course) where
  abbrev pub now : SectionState
  now = state_after start goes.prefix

  further : (s : SectionState) → s ≡ next now step
      → SomePlace rest (λ before x. StandsAtStep c t place (state_after now (step ∷ before)) x)
      → SomePlace rest (λ before x. StandsAtStep c t place (state_after s before) x)
  further s is ahead = record {
    before = ahead.before;
    item = ahead.item;
    rest = ahead.rest;
    is = ahead.is;
    holds = subst (λ (u : SectionState). StandsAtStep c t place (state_after u ahead.before) ahead.item) (sym is)
        ahead.holds;
  }

  -- it doesn't stand at the next, so behind it
  pub goes_on : (StandsAtStep c t place now step → ⊥) → IsCourse (next now step) after → Goes c t e place rest after
  goes_on not_here is =
      let came : state_after start (goes.prefix ++ step ∷ []) ≡ next now step =
      state_after-append start goes.prefix (step ∷ []) in
      record {
        prefix = goes.prefix ++ step ∷ [];
        split = goes.split ∙ sym (append_assoc goes.prefix (step ∷ []) rest);
        is = subst (λ (s : SectionState). IsCourse s after) (sym came) is;
        ahead = further (state_after start (goes.prefix ++ step ∷ [])) came
            (elim (place_cases (λ before x. StandsAtStep c t place (state_after now before) x) step rest goes.ahead) [
              | inl here ↦ absurd (not_here here)
              | inr there ↦ there
            ]);
      }

-- ---- where what was seen comes from

-- a wrong entry is told as well, wherever what it saw comes from
pub told_again : (c : Code) (t : Trace) (place : ℕ) (s : SectionState) (step : ℕ × Step) (attempt : ToldAttempt)
    (request : ToldRequest) (at : ℕ) (wrong : WrongEntry) (x y : Option SeenFrom)
    → TellsStep c t place s step (shown.Chain attempt request at wrong x)
    → TellsStep c t place s step (shown.Chain attempt request at wrong y)
told_again c t place s (o, Attempts a) attempt request at wrong x y told = told
told_again c t place s (o, Commits d) attempt request at wrong x y told = told
told_again c t place s (o, RollsBack r) attempt request at wrong x y told = told
told_again c t place s (o, Transfers z) attempt request at wrong x y told = told

-- other evidence has nothing that was seen
pub none_seen : (t : Trace) (prefix : List (ℕ × Step)) (step : ℕ × Step) (behind : List (ℕ × Step)) (x : Evidence)
    → ((attempt : ToldAttempt) (request : ToldRequest) (at : ℕ) (wrong : WrongEntry) (seen : Option SeenFrom)
    → x ≡ shown.Chain attempt request at wrong seen → ⊥) → TellsSeen t prefix step behind x
none_seen t prefix (o, Attempts a) behind (shown.Chain attempt request at wrong seen) not =
    absurd (not attempt request at wrong seen refl)
none_seen t prefix (o, Attempts a) behind _ not = tt
none_seen t prefix (o, Commits d) behind x not = tt
none_seen t prefix (o, RollsBack r) behind x not = tt
none_seen t prefix (o, Transfers z) behind x not = tt
