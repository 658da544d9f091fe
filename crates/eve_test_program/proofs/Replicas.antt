-- What is told of one replica after another.
use Rattle.std.proofs.Common.{◌≡◌, ℕ, ◌+◌, ◌<◌, inl, inr, List, [], ◌∷◌, ◌++◌, length, refl}
use Rattle.std.proofs.Common.{sym, ap, subst, ◌∙◌, arith}
use Rattle.std.proofs.lemmas.Bool.{cases_lt}
use Rattle.eve_grammar.specs.Trace.{Trace}
use Rattle.eve_grammar.proofs.Numbered.{numbered_more, numbered_all}
use Rattle.eve_history.specs.SectionHistory.{SectionHistory, section_history, section_histories, IsRightSection}
use Rattle.eve_history.proofs.RightSections.{right_beyond}
use Rattle.eve_chains.specs.CommittedValues.{Settling, settling, settlings}
use Rattle.eve_test_program.specs.inner.SectionHistories.{AreTold}

module _ (t : Trace) where
  pub none_told : AreTold t 0 [] []
  none_told = record { histories = refl; settled = refl; right = λ e lt. absurd (omega (arith, lt)) }

  pub told_more : (e : ℕ) (tells more_tells : List SectionHistory) (settles more_settles : List Settling)
      (told : SectionHistory) (wrote : Settling)
      → e < length t.sections → AreTold t e tells settles → more_tells ≡ tells ++ told ∷ [] → more_settles
      ≡ settles ++ wrote ∷ []
      → told ≡ section_history t e → wrote ≡ settling t e → IsRightSection t e
      → AreTold t (e + 1) more_tells more_settles
  told_more e tells more_tells settles more_settles told wrote lt are tells_is settles_is told_is wrote_is right =
      record {
        histories = tells_is ∙ ap (λ (x : SectionHistory). tells ++ x ∷ []) told_is
            ∙ ap (λ (xs : List SectionHistory). xs ++ section_history t e ∷ []) are.histories
            ∙ sym (numbered_more (section_history t) t.sections e lt);
        settled = settles_is ∙ ap (λ (x : Settling). settles ++ x ∷ []) wrote_is
            ∙ ap (λ (xs : List Settling). xs ++ settling t e ∷ []) are.settled
            ∙ sym (numbered_more (settling t) t.sections e lt);
        right = λ k less. elim (cases_lt k e) [
          | inl below ↦ are.right k below
          | inr up ↦ (let same : e ≡ k = omega (arith, less, up) in subst (IsRightSection t) same right)
        ];
      }

  module _ (tells : List SectionHistory) (settles : List Settling) (are : AreTold t (length t.sections) tells settles)
    where
      pub all_told : tells ≡ section_histories t
      unfolding section_histories
      all_told = are.histories ∙ numbered_all (section_history t) t.sections

      pub all_settled : settles ≡ settlings t
      unfolding settlings
      all_settled = are.settled ∙ numbered_all (settling t) t.sections

      pub all_right : (e : ℕ) → IsRightSection t e
      all_right e = elim (cases_lt e (length t.sections)) [ inl lt ↦ are.right e lt | inr le ↦ right_beyond t e le ]
