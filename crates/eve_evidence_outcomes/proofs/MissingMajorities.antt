-- A step without a majority that is still to come.
use Rattle.std.proofs.Common.{◌≡◌, ℕ, ◌+◌, List, [], ◌∷◌, ◌++◌, refl, sym}
use Rattle.std.proofs.Common.{subst, ◌∙◌}
use Rattle.std.proofs.Common.{inl, inr, append_assoc}
use Rattle.std.specs.List.{AllByRecursion}
use Rattle.eve_grammar.specs.Trace.{Transfer, Step}
use Rattle.eve_grammar.specs.Trace.{Transfers, Trace}
use Rattle.eve_grammar.specs.Limits.{HasLimits}
use Rattle.eve_grammar.specs.Spelling.{steps_at}
use Rattle.eve_grammar.proofs.FrameLaws.{few_batches}
use Rattle.eve_views.specs.declared.fault.Code.{Code}
use Rattle.eve_views.specs.declared.fault.Code.TheVariants as code
use Rattle.eve_views.specs.Form.{SomePlace}
use Rattle.eve_history.specs.Section.{start}
use Rattle.eve_history.specs.SectionHistory.{IsRightSection}
use Rattle.eve_history.proofs.Places.{place_cases, no_place}
use Rattle.eve_agree.specs.inner.Unbacked.{HasRoom}
use Rattle.eve_agree.specs.Majority.{SomeDecided, StandsInMajorities}
use Rattle.eve_agree.proofs.RollbackRoom.{room_along}
use Rattle.eve_evidence_outcomes.specs.Majority.{LacksMajority}

-- ---- one step

-- where some commit is decided a state transferred has its majority
pub transfer_has : (c : Code) (t : Trace) (x : Transfer) (seq view : ℕ) → c ≡ code.TransferNoMajority → seq ≡ x.seq
    → view ≡ x.view → SomeDecided t seq view → ¬ LacksMajority c t (Transfers x)
transfer_has c t x seq view is one two decided lacks =
    (subst (λ (k : Code). LacksMajority k t (Transfers x)) is lacks)
    (subst (λ (w : ℕ). SomeDecided t x.seq w) two (subst (λ (n : ℕ). SomeDecided t n view) one decided))

-- ---- along the section

abbrev pub LacksHere : Code → Trace → ℕ → ℕ × Step → Type 0
LacksHere c t place step = (step.0 ≡ place) × LacksMajority c t step.1

-- These steps are still to come, and the fault stands at one of them.
pub record Ahead (c : Code) (t : Trace) (e place : ℕ) (rest : List (ℕ × Step)) : Type 0 where
  pub prefix : List (ℕ × Step)
  pub split : steps_at t e ≡ prefix ++ rest
  pub room : AllByRecursion (λ x. HasRoom x.1) rest
  pub stands : SomePlace rest (λ _ step. LacksHere c t place step)

stands_lacking : (c : Code) (t : Trace) (e place : ℕ) → StandsInMajorities c t e place
    → SomePlace (steps_at t e) (λ _ step. LacksHere c t place step)
stands_lacking code.NoMajority t e place stands = stands
stands_lacking code.RollbackNoMajority t e place stands = stands
stands_lacking code.TransferNoMajority t e place stands = stands
stands_lacking _ t e place stands = absurd stands

pub all_ahead : (c : Code) (t : Trace) (e place : ℕ) → HasLimits t → IsRightSection t e → StandsInMajorities c t e place
    → Ahead c t e place (steps_at t e)
all_ahead c t e place limits right stands = record {
  prefix = [];
  split = refl;
  room = room_along t start (steps_at t e) (few_batches t limits) right;
  stands = stands_lacking c t e place stands;
}

module _ (c : Code) (t : Trace) (e place : ℕ) where
  pub none_ahead : Ahead c t e place [] → ⊥
  none_ahead ahead = no_place _ ahead.stands

  module _ (step : ℕ × Step) (rest : List (ℕ × Step)) (ahead : Ahead c t e place (step ∷ rest)) where
    pub goes_on : (step.0 ≡ place → ¬ LacksMajority c t step.1) → Ahead c t e place rest
    goes_on not_here = record {
      prefix = ahead.prefix ++ step ∷ [];
      split = ahead.split ∙ sym (append_assoc ahead.prefix (step ∷ []) rest);
      room = ahead.room.1;
      stands = elim (place_cases (λ _ x. LacksHere c t place x) step rest ahead.stands) [
        | inl here ↦ absurd (not_here here.0 here.1)
        | inr there ↦ there
      ];
    }
