-- Evidence of codes of one kind: that of the other kinds isn't asked for.
use Rattle.std.proofs.Common.{◌≡◌, ℕ, Some, refl, sym, ap, ◌∙◌, arith}
use Rattle.std.specs.Prelude.{IsTrue}
use Rattle.eve_grammar.specs.Trace.{Trace}
use Rattle.eve_views.specs.Code.{phase_of}
use Rattle.eve_views.specs.declared.fault.Code.{Code}
use Rattle.eve_views.specs.declared.fault.Code.TheVariants as code
use Rattle.eve_views.specs.declared.fault.Fault.{Fault}
use Rattle.eve_evidence.specs.declared.evidence.Evidence.{Evidence}
use Rattle.eve_evidence.specs.Section.{TellsAlong}
use Rattle.eve_evidence_form.specs.Orders.{TellsTwice}
use Rattle.eve_evidence_outcomes.specs.Majority.{TellsMajority}
use Rattle.eve_explain.specs.Explained.{IsEvidence, is_of_majority, is_of_orders, is_told_along}
use Rattle.eve_explain.proofs.Phases.{along_phase, majority_code_phase, orders_phase}

module _ (t : Trace) (f : Fault) (x : Evidence) where
  -- of a phase that has none of the codes which are asked for one by one
  of_phase : (n : ℕ) → phase_of f.code ≡ n → (n ≡ 6 → ⊥) → (n ≡ 7 → ⊥) → (n ≡ 8 → ⊥) → (n ≡ 10 → ⊥) → (n ≡ 11 → ⊥)
      → (IsTrue (is_of_orders f.code) → TellsTwice t f x)
      → (IsTrue (is_told_along f.code) → (e : ℕ) → f.replica ≡ Some e → TellsAlong f.code t e f.offset x)
      → (IsTrue (is_of_majority f.code) → (e : ℕ) → f.replica ≡ Some e → TellsMajority f.code t e f.offset x)
      → IsEvidence t f x
  of_phase n is six seven eight ten eleven twice along majority =
      let phase = λ (k : Code) (same : f.code ≡ k). sym is ∙ ap phase_of same in
      record {
        twice = twice;
        along = along;
        restore = λ same. absurd (six (phase code.Restore same));
        token = λ same. absurd (seven (phase code.Token same));
        votes = λ same. absurd (eight (phase code.TwoVotes same));
        decisions = λ same. absurd (eight (phase code.TwoDecisions same));
        majority = majority;
        outcome = λ same. absurd (ten (phase code.Outcome same));
        state = λ same. absurd (ten (phase code.TransferBalances same));
        reply = λ same. absurd (eleven (phase code.Reply same));
      }

  pub told_along : IsTrue (is_told_along f.code)
      → ((e : ℕ) → f.replica ≡ Some e → TellsAlong f.code t e f.offset x) → IsEvidence t f x
  told_along along tells =
      let p = along_phase f.code along in
      of_phase (phase_of f.code) refl (λ is. omega (arith, p.1, is)) (λ is. omega (arith, p.1, is))
      (λ is. omega (arith, p.1, is)) (λ is. omega (arith, p.1, is)) (λ is. omega (arith, p.1, is))
      (λ orders. absurd (omega (arith, p.0, orders_phase f.code orders))) (λ _. tells)
      (λ majority. absurd (omega (arith, p.1, majority_code_phase f.code majority)))

  pub told_majority : IsTrue (is_of_majority f.code)
      → ((e : ℕ) → f.replica ≡ Some e → TellsMajority f.code t e f.offset x) → IsEvidence t f x
  told_majority majority tells =
      let nine = majority_code_phase f.code majority in
      of_phase 9 nine (λ is. omega (arith, is)) (λ is. omega (arith, is)) (λ is. omega (arith, is))
      (λ is. omega (arith, is)) (λ is. omega (arith, is))
      (λ orders. absurd (omega (arith, nine, orders_phase f.code orders)))
      (λ along. absurd (omega (arith, nine, (along_phase f.code along).1))) (λ _. tells)

  pub told_twice : IsTrue (is_of_orders f.code) → TellsTwice t f x → IsEvidence t f x
  told_twice orders tells =
      let two = orders_phase f.code orders in
      of_phase 2 two (λ is. omega (arith, is)) (λ is. omega (arith, is)) (λ is. omega (arith, is))
      (λ is. omega (arith, is)) (λ is. omega (arith, is)) (λ _. tells)
      (λ along. absurd (omega (arith, two, (along_phase f.code along).0)))
      (λ majority. absurd (omega (arith, two, majority_code_phase f.code majority)))
