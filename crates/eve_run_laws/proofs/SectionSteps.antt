-- Along a section of a run: each step is right, and what each step keeps holds after all of them.
use Rattle.std.proofs.Common.{◌≡◌, ℕ, ◌+◌, true, All, List, [], ◌∷◌, ◌++◌, map, length, refl, sym, subst, ap, ◌∙◌}
use Rattle.std.proofs.Common.{inl, inr}
use Rattle.std.specs.Prelude.{⊤}
use Rattle.std.specs.List.{AllByRecursion}
use Rattle.std.proofs.lemmas.Bool.{and_from, cases_lt}
use Rattle.std.proofs.lemmas.List.Elements.{All-get_or}
use Rattle.eve_smallbank.proofs.Members.{all_from_in}
use Rattle.eve_grammar.specs.Trace.{Step, Trace}
use Rattle.eve_grammar.specs.Frames.{OfReplica}
use Rattle.eve_grammar.specs.Spelling.{frame_text, located, step_text, section_start, steps_of, steps_at}
use Rattle.eve_votes.proofs.Places.{located_values}
use Rattle.eve_history.specs.Section.{SectionState, start, next, state_after, is_right, are_right}
use Rattle.eve_history.specs.SectionHistory.{history, IsRightSection}
use Rattle.eve_history.proofs.RightSections.{none_at}
use Rattle.eve_attempts.specs.Ledgers.{Ledger}
use Rattle.eve_replica.specs.Sections.{RunPlan, MakesOf, GoesThrough}
use Rattle.eve_replica.specs.Run.{IsSectionOf}
use Rattle.eve_run_laws.proofs.LedgersAlike.{IsPlanOf, AreAlike}
use Rattle.eve_run_laws.proofs.RightSteps.{alike_first, step_right, step_alike}

-- ---- lists with byte offsets

pub all_located : {A : Type 0} (P : A → Type 0) (text : A → List ℕ) (at : ℕ) (xs : List A) → AllByRecursion P xs
    → AllByRecursion (λ x. P x.1) (located text at xs)
all_located P text at [] all = tt
all_located P text at (x ∷ xs) all = (all.0, all_located P text (at + length (text x)) xs all.1)

-- the steps of a replica without their offsets
pub plain_steps : (t : Trace) (e : ℕ) → map (λ x. x.1) (steps_at t e) ≡ steps_of t e
unfolding steps_at
plain_steps t e = located_values step_text (section_start t e + length (frame_text (OfReplica e))) (steps_of t e)

-- what holds of each of them
pub all_steps_at : (P : Step → Type 0) (t : Trace) (e : ℕ) → AllByRecursion P (steps_of t e)
    → AllByRecursion (λ x. P x.1) (steps_at t e)
unfolding steps_at
all_steps_at P t e all =
    all_located P step_text (section_start t e + length (frame_text (OfReplica e))) (steps_of t e) all

-- Where a replica takes these steps and then this one: those that it takes before, the one, and those after it.
pub record IsCut (t : Trace) (e : ℕ) (prefix : List Step) (x : Step) : Type 0 where
  pub before : List (ℕ × Step)
  pub at : ℕ
  pub after : List (ℕ × Step)
  pub is : steps_at t e ≡ before ++ (at, x) ∷ after
  pub plain : map (λ s. s.1) before ≡ prefix

located_cut : {A : Type 0} (text : A → List ℕ) (at : ℕ) (xs ys : List A)
    → (from : ℕ) × (located text at (xs ++ ys) ≡ located text at xs ++ located text from ys)
located_cut text at [] ys = (at, refl)
located_cut {A = A} text at (x ∷ xs) ys =
    let rest = located_cut text (at + length (text x)) xs ys in
    (rest.0, ap (λ (zs : List (ℕ × A)). (at, x) ∷ zs) rest.1)

pub steps_cut : (t : Trace) (e : ℕ) (prefix : List Step) (x : Step) (rest : List Step)
    → steps_of t e ≡ prefix ++ x ∷ rest → IsCut t e prefix x
unfolding steps_at
steps_cut t e prefix x rest are =
    let from = section_start t e + length (frame_text (OfReplica e)) in
    let there = located_cut step_text from prefix (x ∷ rest) in
    record {
      before = located step_text from prefix;
      at = there.0;
      after = located step_text (there.0 + length (step_text x)) rest;
      is = ap (located step_text from) are ∙ there.1;
      plain = located_values step_text from prefix;
    }

-- ---- the steps of a section

module _ (p : RunPlan) (t : Trace) (plan : IsPlanOf p t) where
  -- what each step keeps, if this holds of it, holds after all of them
  pub along : (H : Step → Type 0) (Q : SectionState → Type 0)
      → ((s : SectionState) (old new : Ledger) (at : ℕ) (x : Step) → AreAlike t s old → MakesOf p x old new → H x → Q s
      → Q (next s (at, x)))
      → (steps : List (ℕ × Step)) (s : SectionState) (old new : Ledger) → AllByRecursion (λ x. H x.1) steps
      → GoesThrough p (map (λ x. x.1) steps) old new → AreAlike t s old → Q s → Q (state_after s steps)
  along H Q keeps [] s old new all goes alike so = so
  along H Q keeps ((at, x) ∷ steps) s old new all goes alike so =
      along H Q keeps steps (next s (at, x)) goes.0 new all.1 goes.2
      (step_alike p t plan s old goes.0 at x alike goes.1) (keeps s old goes.0 at x alike goes.1 all.0 so)

  -- the section comes to where its ledger does
  pub alike_after : (steps : List (ℕ × Step)) (s : SectionState) (old new : Ledger)
      → GoesThrough p (map (λ x. x.1) steps) old new → AreAlike t s old → AreAlike t (state_after s steps) new
  alike_after [] s old new goes alike = subst (AreAlike t s) goes alike
  alike_after ((at, x) ∷ steps) s old new goes alike =
      alike_after steps (next s (at, x)) goes.0 new goes.2 (step_alike p t plan s old goes.0 at x alike goes.1)

  right_along : (steps : List (ℕ × Step)) (s : SectionState) (old new : Ledger)
      → GoesThrough p (map (λ x. x.1) steps) old new → AreAlike t s old → are_right t s steps ≡ true
  right_along [] s old new goes alike = refl
  right_along ((at, x) ∷ steps) s old new goes alike =
      and_from (is_right t s x) (are_right t (next s (at, x)) steps) (step_right p t plan s old goes.0 x alike goes.1)
      (right_along steps (next s (at, x)) goes.0 new goes.2 (step_alike p t plan s old goes.0 at x alike goes.1))

  -- the way of a section's ledger from the first; past the last replica there are no steps
  pub goes : All (IsSectionOf p) t.sections → (e : ℕ)
      → (last : Ledger) × GoesThrough p (map (λ x. x.1) (steps_at t e)) p.first last
  goes sections e = elim (cases_lt e (length t.sections)) [
    | inl lt ↦
        let own = All-get_or (IsSectionOf p) t.sections e [] lt sections in (
          own.last,
          subst (λ (steps : List Step). GoesThrough p steps p.first own.last) (sym (plain_steps t e))
              own.through,
        )
    | inr le ↦ (
      p.first,
      subst (λ (steps : List (ℕ × Step)). GoesThrough p (map (λ x. x.1) steps) p.first p.first)
          (sym (none_at t e le)) refl,
    )
  ]

  pub right_section : All (IsSectionOf p) t.sections → (e : ℕ) → IsRightSection t e
  right_section sections e =
      let way = goes sections e in right_along (steps_at t e) start p.first way.0 way.1 (alike_first p t plan)

  pub kept_where : All (IsSectionOf p) t.sections → (H : Step → Type 0) (Q : SectionState → Type 0)
      → ((s : SectionState) (old new : Ledger) (at : ℕ) (x : Step) → AreAlike t s old → MakesOf p x old new → H x → Q s
      → Q (next s (at, x)))
      → Q start → (e : ℕ) → AllByRecursion H (steps_of t e) → Q (history t e)
  unfolding history
  kept_where sections H Q keeps first e all =
      let way = goes sections e in
      along H Q keeps (steps_at t e) start p.first way.0 (all_steps_at H t e all) way.1 (alike_first p t plan) first

  pub kept : All (IsSectionOf p) t.sections → (Q : SectionState → Type 0)
      → ((s : SectionState) (old new : Ledger) (at : ℕ) (x : Step) → AreAlike t s old → MakesOf p x old new → Q s
      → Q (next s (at, x)))
      → Q start → (e : ℕ) → Q (history t e)
  kept sections Q keeps first e =
      kept_where sections (λ x. ⊤) Q (λ s old new at x alike made h so. keeps s old new at x alike made so) first e
      (all_from_in (λ x. ⊤) (steps_of t e) (λ x i. tt))
