-- Replies of two attempts beside each other, and outcomes at their bytes.
use Rattle.std.proofs.Common.{◌≡◌, ◌≢◌, ℕ, zero, suc, ◌+◌, ◌<◌, ◌≤◌, List, [], ◌∷◌, length, slice_get, Some, None, refl}
use Rattle.std.proofs.Common.{Option, sym, ap, subst, ◌∙◌, inl, inr, arith}
use Rattle.std.specs.Prelude.{IfSome}
use Rattle.std.specs.Option.{option_map}
use Rattle.std.proofs.lemmas.Bool.{cases_lt}
use Rattle.std.proofs.lemmas.Option.{same_Some}
use Rattle.eve_smallbank.specs.declared.request.Reply.{Reply}
use Rattle.eve_grammar.specs.Trace.{Attempt, Trace}
use Rattle.eve_frames.specs.Decoded.{attempt_decoded}
use Rattle.eve_frames.specs.declared.attempt.AttemptView.{AttemptView}
use Rattle.eve_frames.proofs.AttemptPlaces.{attempt_few, attempt_even}
use Rattle.eve_views.specs.declared.fault.Code.TheVariants as code
use Rattle.eve_history.specs.Section.{Placed}
use Rattle.eve_history.specs.SectionHistory.{committed_at}
use Rattle.eve_chains.specs.Committed.{balances_to}
use Rattle.eve_chains.specs.CommittedValues.{Settling, settling}
use Rattle.eve_chains.proofs.LinkedPaths.{none≢some}
use Rattle.eve_agree.specs.Agreement.{first_to_commit, HaveSameOutcome, StandsInAgreement}
use Rattle.eve_agree.proofs.ByNumber.{committed_settled}
use Rattle.eve_evidence.specs.declared.evidence.ToldAttempt.{ToldAttempt}
use Rattle.eve_evidence.specs.declared.evidence.OutcomeFault.{OutcomeFault}
use Rattle.eve_evidence.specs.Told.{told_attempt}
use Rattle.eve_evidence_outcomes.specs.inner.Committed.{IsCommittedBy}
use Rattle.eve_evidence_outcomes.specs.Outcome.{TellsOutcomeFault, IsOtherOutcome, HasThatOfFirst}
use Rattle.eve_evidence_outcomes.proofs.FirstReplicas.{first_found}

-- ---- two lists, place by place

pub same_lists : {A : Type 0} (xs ys : List A) (n : ℕ) → length xs ≤ n → length ys ≤ n
    → ((i : ℕ) → i < n → slice_get xs i ≡ slice_get ys i) → xs ≡ ys
same_lists [] [] n few its same = refl
same_lists [] (y ∷ ys) n few its same = absurd (none≢some y (same 0 (omega (arith, its))))
same_lists (x ∷ xs) [] n few its same = absurd (none≢some x (sym (same 0 (omega (arith, few)))))
same_lists (x ∷ xs) (y ∷ ys) zero few its same = absurd (omega (arith, few))
same_lists (x ∷ xs) (y ∷ ys) (suc n) few its same =
    let here : x ≡ y = same_Some x y (same 0 (omega arith)) in
    let rest : xs ≡ ys = same_lists xs ys n (omega (arith, few)) (omega (arith, its))
    (λ i lt. same (suc i) (omega (arith, lt))) in
    λ i. here i ∷ rest i

pub same_next : {A : Type 0} (xs ys : List A) (n : ℕ) → ((i : ℕ) → i < n → slice_get xs i ≡ slice_get ys i)
    → slice_get xs n ≡ slice_get ys n → (i : ℕ) → i < n + 1 → slice_get xs i ≡ slice_get ys i
same_next xs ys n all here i lt = elim (cases_lt i n) [
  | inl less ↦ all i less
  | inr le ↦ (let same : n ≡ i = omega arith in subst (λ (k : ℕ). slice_get xs k ≡ slice_get ys k) same here)
]

pub replies_few : (a : AttemptView) → length (attempt_decoded a).replies ≤ 256
replies_few a =
    let even = attempt_even a.bytes.now a.whole in
    let few = attempt_few a.bytes.now a.whole in
    omega (arith, even, few)

-- ---- outcomes at their bytes

replies_are : (t : Trace) (e n : ℕ) (a : AttemptView) → (own : IsCommittedBy t e n a)
    → (attempt_decoded a).replies ≡ own.placed.attempt.replies
replies_are t e n a own = ap (λ (x : Attempt). x.replies) own.decoded

module _ (t : Trace) (e n place : ℕ) where
  pub none_there : committed_at t e n ≡ None → HasThatOfFirst t e place n
  none_there none p at offset = absurd (none≢some p (sym none ∙ at))

  module _ (a : AttemptView) (own : IsCommittedBy t e n a) where
    pub elsewhere : a.offset ≢ place → HasThatOfFirst t e place n
    elsewhere apart p at offset =
        absurd (apart (own.offset_is ∙ ap (λ (q : Placed). q.offset) (same_Some own.placed p (sym own.committed ∙ at))
        ∙ offset))

    pub some_first : e < length t.sections → first_to_commit t n ≡ None → ⊥
    some_first there none = first_found t n e own.placed there own.committed none

    module _ (f : ℕ) (b : AttemptView) (first : first_to_commit t n ≡ Some f) (its : IsCommittedBy t f n b) where
      pub same_outcome : balances_to t e n ≡ balances_to t f n → (attempt_decoded a).replies
          ≡ (attempt_decoded b).replies
          → HasThatOfFirst t e place n
      same_outcome balances replies p at offset = (
        f,
        first,
        record {
          balances = balances;
          replies = ap (option_map (λ (q : Placed). q.attempt.replies)) own.committed
              ∙ ap Some (sym (replies_are t e n a own) ∙ replies ∙ replies_are t f n b its)
              ∙ sym (ap (option_map (λ (q : Placed). q.attempt.replies)) its.committed);
        },
      )

      pub other_outcome : a.offset ≡ place → (attempt : ToldAttempt) → attempt
          ≡ told_attempt a.offset (attempt_decoded a)
          → (at : ℕ) → at ≡ b.offset → (wrong : OutcomeFault)
          → TellsOutcomeFault t e f n (attempt_decoded a).replies (attempt_decoded b).replies wrong
          → IsOtherOutcome t e place attempt f at wrong
      other_outcome here attempt is at at_is wrong tells = record {
        n = n;
        placed = own.placed;
        committed = own.committed;
        place_is = sym own.offset_is ∙ here;
        attempt_is = is ∙ (λ i. told_attempt (own.offset_is i) (own.decoded i));
        first_is = first;
        its = its.placed;
        its_committed = its.committed;
        at_is = at_is ∙ its.offset_is;
        wrong_is = subst (λ (xs : List Reply). TellsOutcomeFault t e f n xs its.placed.attempt.replies wrong)
            (replies_are t e n a own)
            (subst (λ (xs : List Reply). TellsOutcomeFault t e f n (attempt_decoded a).replies xs wrong)
            (replies_are t f n b its) tells);
      }

-- where all attempts at this byte have the outcome of the first no fault stands there
pub none_differs : (t : Trace) (e place : ℕ) (s : Settling) (count : ℕ) → s ≡ settling t e → length s.numbers ≤ count
    → ((m : ℕ) → 1 ≤ m → m ≤ count → HasThatOfFirst t e place m) → ¬ StandsInAgreement code.Outcome t e place
none_differs t e place s count is whole all stands = by stands.n stands.item stands.is stands.offset stands.holds
  where
    by : (m : ℕ) (p : Placed) → committed_at t e m ≡ Some p → p.offset ≡ place
        → IfSome (first_to_commit t m) (λ f. ¬ HaveSameOutcome t e f m) → ⊥
    by zero p at offset not = none≢some p at
    by (suc m) p at offset not =
        let there = committed_settled t e (suc m) p s is at in
        let got = all (suc m) (omega arith) (omega (arith, there, whole)) p at offset in
        subst (λ (o : Option ℕ). IfSome o (λ f. ¬ HaveSameOutcome t e f (suc m))) got.1 not got.2
