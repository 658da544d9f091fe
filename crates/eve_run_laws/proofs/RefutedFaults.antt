-- Where all is as it must be no fault stands: in structure, votes and majorities.
use Rattle.std.proofs.Common.{◌≡◌, ℕ, ◌+◌, ◌-◌, ◌≤◌, Bool, true, false, cond, List, [], ◌∷◌, ◌++◌, map, filter, length}
use Rattle.std.proofs.Common.{refl, sym, ap, subst, ◌∙◌, append-nil, length-append, eq-eqb, inl, inr, arith}
use Rattle.std.specs.Prelude.{◌==◌, ◌||◌}
use Rattle.std.specs.List.{AllByRecursion, list_any}
use Rattle.std.proofs.lemmas.Bool.{and_from, false≢true}
use Rattle.std.proofs.lemmas.List.{map-append}
use Rattle.std.proofs.lemmas.List.Elements.{filter-append}
use Rattle.eve_grammar.specs.Trace.{Step, Attempts, Commits, RollsBack, Transfers, Vote, Trace}
use Rattle.eve_grammar.specs.Frames.{OfVerifier, OfVote}
use Rattle.eve_grammar.specs.Spelling.{frame_text, steps_at, verifier_start, votes_of, votes_at}
use Rattle.eve_views.specs.declared.fault.Code.{Code}
use Rattle.eve_views.specs.declared.fault.Code.TheVariants as code
use Rattle.eve_views.specs.declared.fault.Fault.{Fault}
use Rattle.eve_views.specs.Form.{IsFaultSomewhere, IsFaultOutside, IsFaultIn, SomePlace}
use Rattle.eve_votes.specs.Votes.{is_vote_on, IsDecided, IsRolledBack}
use Rattle.eve_votes.specs.Faults.{StandsInVotes, AreVotesSound, IsFurther}
use Rattle.eve_votes.proofs.Places.{located_values}
use Rattle.eve_history.specs.Section.{start}
use Rattle.eve_history.specs.SectionHistory.{IsRightSection}
use Rattle.eve_history.specs.Structure.{OfCommit, OfRollback, OfTransfer, StandsInStructure}
use Rattle.eve_history.specs.inner.FirstWrong.{first_wrong}
use Rattle.eve_history.proofs.Places.{no_place, place_cases}
use Rattle.eve_history.proofs.StructureLaws.{steps_on, none_stands}
use Rattle.eve_agree.specs.Majority.{SomeDecided, IsBacked, AllAreBacked, StandsInMajorities}

-- ---- structure

pub no_structure_fault : (t : Trace) (e : ℕ) → IsRightSection t e → (f : Fault) → ¬ IsFaultIn StandsInStructure t e f
no_structure_fault t e right f fault =
    none_stands t e f
    (ap (first_wrong t start) (sym (append-nil (steps_at t e))) ∙ steps_on t start (steps_at t e) [] right) fault

-- ---- votes

module _ (p : Vote → Bool) where
  one_passes : (xs : List (ℕ × Vote)) → list_any (λ x. p x.1) xs ≡ true → 1 ≤ length (filter p (map (λ x. x.1) xs))
  one_passes [] any = absurd (false≢true any)
  one_passes (x ∷ xs) any = by (p x.1) any (one_passes xs)
    where
      by : (b : Bool) → (b || list_any (λ y. p y.1) xs) ≡ true
          → (list_any (λ y. p y.1) xs ≡ true → 1 ≤ length (filter p (map (λ y. y.1) xs)))
          → 1 ≤ length (cond b (x.1 ∷ filter p (map (λ y. y.1) xs)) (filter p (map (λ y. y.1) xs)))
      by true any later = omega arith
      by false any later = later any

  two_pass : (xs : List (ℕ × Vote)) (x : ℕ × Vote) (rest : List (ℕ × Vote)) → list_any (λ y. p y.1) xs ≡ true
      → p x.1 ≡ true → 2 ≤ length (filter p (map (λ y. y.1) (xs ++ x ∷ rest)))
  two_pass xs x rest any own =
      let prefix = filter p (map (λ (y : ℕ × Vote). y.1) xs) in
      let back = filter p (map (λ (y : ℕ × Vote). y.1) rest) in
      let cut : filter p (map (λ y. y.1) (xs ++ x ∷ rest)) ≡ prefix ++ cond (p x.1) (x.1 ∷ back) back =
      ap (filter p) (map-append (λ (y : ℕ × Vote). y.1) xs (x ∷ rest))
      ∙ filter-append p (map (λ (y : ℕ × Vote). y.1) xs) (map (λ (y : ℕ × Vote). y.1) (x ∷ rest)) in
      let here : length (cond (p x.1) (x.1 ∷ back) back) ≡ length (x.1 ∷ back) =
      ap (λ (b : Bool). length (cond b (x.1 ∷ back) back)) own in
      omega (arith, one_passes xs any, ap length cut, length-append prefix (cond (p x.1) (x.1 ∷ back) back), here)

module _ (t : Trace) (sound : AreVotesSound t) where
  votes_plain : (v : ℕ) → map (λ x. x.1) (votes_at t v) ≡ votes_of t v
  unfolding votes_at
  votes_plain v = located_values (λ w. frame_text (OfVote w))
      (verifier_start t v + length (frame_text (OfVerifier v))) (votes_of t v)

  none_further : (v at : ℕ) → SomePlace (votes_at t v) (λ before w. (w.0 ≡ at) × IsFurther before w) → ⊥
  none_further v at place =
      let w = place.item.1 in
      let two : 2 ≤ length (filter (is_vote_on w.seq w.view) (map (λ x. x.1) (votes_at t v))) =
      subst (λ (xs : List (ℕ × Vote)). 2 ≤ length (filter (is_vote_on w.seq w.view) (map (λ x. x.1) xs)))
      (sym place.is)
      (two_pass (is_vote_on w.seq w.view) place.before place.item place.rest place.holds.1
      (and_from (w.seq == w.seq) (w.view == w.view) (eq-eqb w.seq w.seq refl) (eq-eqb w.view w.view refl))) in
      let one : length (filter (is_vote_on w.seq w.view) (map (λ x. x.1) (votes_at t v))) ≤ 1 =
      subst (λ (ws : List Vote). length (filter (is_vote_on w.seq w.view) ws) ≤ 1) (sym (votes_plain v))
      (sound.once v w.seq w.view) in
      omega (arith, two, one)

  pub no_vote_fault : (f : Fault) → ¬ IsFaultOutside StandsInVotes t f
  no_vote_fault f fault = by f.code fault.stands
    where
      by : (c : Code) → StandsInVotes c t f.offset → ⊥
      by code.TwoVotes stands = none_further stands.0 f.offset stands.1
      by code.TwoDecisions stands =
          let two = stands.holds.1 in
          two.4 (sound.one_view stands.item.1.0 two.0 two.1 two.2 two.3 two.5
          two.6)
      by c stands = absurd stands

-- ---- majorities

-- where it holds of all, it fails nowhere
none_fails : {A : Type 0} (P : A → Type 0) (Q : List A → A → Type 0) (xs : List A) → AllByRecursion P xs
    → ((b : List A) (x : A) → P x → Q b x → ⊥) → SomePlace xs Q → ⊥
none_fails P Q [] all apart place = no_place Q place
none_fails P Q (x ∷ xs) all apart place = elim (place_cases Q x xs place) [
  | inl here ↦ apart [] x all.0 here
  | inr there ↦ none_fails P (λ b y. Q (x ∷ b) y) xs all.1 (λ b y. apart (x ∷ b) y) there
]

module _ (t : Trace) where
  commit_backed : (step : Step) → IsBacked t step → OfCommit step (λ c. ¬ IsDecided t c.seq c.view c.token) → ⊥
  commit_backed (Attempts a) backed wrong = wrong
  commit_backed (Commits c) backed wrong = wrong backed
  commit_backed (RollsBack r) backed wrong = wrong
  commit_backed (Transfers x) backed wrong = wrong

  rollback_backed : (step : Step) → IsBacked t step
      → OfRollback step (λ r. ¬ IsRolledBack t (r.to + 1) (r.view - 1)) → ⊥
  rollback_backed (Attempts a) backed wrong = wrong
  rollback_backed (Commits c) backed wrong = wrong
  rollback_backed (RollsBack r) backed wrong = wrong backed
  rollback_backed (Transfers x) backed wrong = wrong

  state_backed : (step : Step) → IsBacked t step → OfTransfer step (λ x. ¬ SomeDecided t x.seq x.view) → ⊥
  state_backed (Attempts a) backed wrong = wrong
  state_backed (Commits c) backed wrong = wrong
  state_backed (RollsBack r) backed wrong = wrong
  state_backed (Transfers x) backed wrong = wrong backed

  pub no_majority_fault : AllAreBacked t → (f : Fault) → ¬ IsFaultSomewhere StandsInMajorities t f
  no_majority_fault backed f fault = by f.code fault.1.stands
    where
      by : (c : Code) → StandsInMajorities c t fault.0 f.offset → ⊥
      by code.NoMajority stands = none_fails (λ step. IsBacked t step.1)
          (λ _ step. (step.0 ≡ f.offset) × OfCommit step.1 (λ c. ¬ IsDecided t c.seq c.view c.token))
          (steps_at t fault.0) (backed fault.0)
          (λ b step is wrong. commit_backed step.1 is wrong.1) stands
      by code.RollbackNoMajority stands = none_fails (λ step. IsBacked t step.1)
          (λ _ step. (step.0 ≡ f.offset) × OfRollback step.1 (λ r. ¬ IsRolledBack t (r.to + 1) (r.view - 1)))
          (steps_at t fault.0) (backed fault.0)
          (λ b step is wrong. rollback_backed step.1 is wrong.1) stands
      by code.TransferNoMajority stands = none_fails (λ step. IsBacked t step.1)
          (λ _ step. (step.0 ≡ f.offset) × OfTransfer step.1 (λ x. ¬ SomeDecided t x.seq x.view))
          (steps_at t fault.0) (backed fault.0)
          (λ b step is wrong. state_backed step.1 is wrong.1) stands
      by c stands = absurd stands
