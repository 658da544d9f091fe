-- Votes on one batch in one view, and where there are none.
use Rattle.std.proofs.Common.{◌≡◌, ℕ, ◌+◌, ◌≤◌, Bool, false, ◌||◌, List, [], ◌∷◌, length, refl, sym}
use Rattle.std.proofs.Common.{ap, subst, ◌∙◌}
use Rattle.std.specs.Prelude.{IsFalse}
use Rattle.std.specs.List.{AllByRecursion, list_any}
use Rattle.std.proofs.lemmas.Bool.{false≢true}
use Rattle.std.proofs.lemmas.List.{get_or_past}
use Rattle.eve_grammar.specs.Frames.{OfVote, OfVerifier}
use Rattle.eve_grammar.specs.Trace.{Vote, Trace}
use Rattle.eve_grammar.specs.Spelling.{frame_text, located, verifier_start, votes_at, votes_of}
use Rattle.eve_views.specs.Form.{SomePlace}
use Rattle.eve_history.proofs.Places.{no_place}
use Rattle.eve_votes.specs.Votes.{is_vote_on}
use Rattle.eve_votes.specs.Faults.{IsFurther}
use Rattle.eve_grammar.specs.Bodies.{borrowed_choice}
use Rattle.eve_evidence.specs.declared.evidence.SecondVote.{SecondVote}
use Rattle.eve_evidence_outcomes.specs.SecondVote.{IsFirstOn, IsSecond}

none_on : (xs : List (ℕ × Vote)) (n view : ℕ) → AllByRecursion (λ z. IsFalse (is_vote_on n view z.1)) xs
    → list_any (λ u. is_vote_on n view u.1) xs ≡ false
none_on [] n view all = refl
none_on (x ∷ xs) n view all =
    ap (λ (b : Bool). b || list_any (λ u. is_vote_on n view u.1) xs) all.0 ∙ none_on xs n view all.1

pub no_further : (xs : List (ℕ × Vote)) (w : ℕ × Vote) (n view : ℕ) → n ≡ w.1.seq → view ≡ w.1.view
    → AllByRecursion (λ z. IsFalse (is_vote_on n view z.1)) xs → IsFurther xs w → ⊥
no_further xs w n view n_is view_is all further =
    false≢true (sym (none_on xs n view all)
    ∙ (λ i. list_any (λ u. is_vote_on (n_is i) (view_is i) u.1) xs) ∙ further)

-- a vote of which all is told, and the first
pub second_is : (before : List (ℕ × Vote)) (y first : ℕ × Vote) (s : SecondVote) → s.batch ≡ y.1.seq
    → s.view ≡ y.1.view → borrowed_choice s.choice ≡ y.1.choice → IsFirstOn before s.batch s.view first
    → s.first ≡ first.0 → borrowed_choice s.first_choice ≡ first.1.choice → IsSecond before y s
second_is before y first s batch view choice on at its_choice = record {
  batch_is = batch;
  view_is = view;
  choice_is = choice;
  earliest = first;
  first = subst (λ (n : ℕ). IsFirstOn before n y.1.view first) batch
      (subst (λ (n : ℕ). IsFirstOn before s.batch n first) view on);
  first_is = at;
  first_choice_is = its_choice;
}

pub no_votes_there : (t : Trace) (v : ℕ) → length t.verifiers ≤ v → (P : List (ℕ × Vote) → ℕ × Vote → Type 0)
    → SomePlace (votes_at t v) P → ⊥
unfolding votes_at
no_votes_there t v past P place =
    let none : votes_of t v ≡ [] = get_or_past t.verifiers v [] past in
    no_place P (subst (λ (ws : List Vote). SomePlace (located (λ w. frame_text (OfVote w))
    (verifier_start t v + length (frame_text (OfVerifier v))) ws) P) none place)
