-- Where a trace has two replicas, what those two did and committed is what all did and committed.
use Rattle.std.proofs.Common.{◌≡◌, ℕ, List, [], ◌∷◌, map, length, refl, sym, ap, ◌∙◌, arith}
use Rattle.std.specs.List.{enumerate_from}
use Rattle.eve_grammar.specs.Trace.{Trace}
use Rattle.eve_history.specs.SectionHistory.{SectionHistory, section_history, section_histories}
use Rattle.eve_chains.specs.CommittedValues.{Settling, settling, settlings}

both : {A B : Type 0} (h : ℕ → B) (xs : List A) → length xs ≡ 2 → map (λ s. h s.0) (enumerate_from 0 xs)
    ≡ h 0 ∷ h 1 ∷ []
both h [] two = absurd (omega arith)
both h (x ∷ []) two = absurd (omega arith)
both h (x ∷ y ∷ []) two = refl
both h (x ∷ y ∷ z ∷ xs) two = absurd (omega arith)

pub both_told : (t : Trace) (first second : SectionHistory) → length t.sections ≡ 2 → first ≡ section_history t 0
    → second ≡ section_history t 1
    → first ∷ second ∷ [] ≡ section_histories t
unfolding section_histories
both_told t first second two one_is two_is =
    ap (λ (x : SectionHistory). x ∷ second ∷ []) one_is
    ∙ ap (λ (x : SectionHistory). section_history t 0 ∷ x ∷ []) two_is
    ∙ sym (both (section_history t) t.sections two)

pub both_settled : (t : Trace) (first second : Settling) → length t.sections ≡ 2 → first ≡ settling t 0
    → second ≡ settling t 1
    → first ∷ second ∷ [] ≡ settlings t
unfolding settlings
both_settled t first second two one_is two_is =
    ap (λ (x : Settling). x ∷ second ∷ []) one_is ∙ ap (λ (x : Settling). settling t 0 ∷ x ∷ []) two_is
    ∙ sym (both (settling t) t.sections two)
