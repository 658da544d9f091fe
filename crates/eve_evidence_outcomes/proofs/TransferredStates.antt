-- States that were transferred, at their bytes.
use Rattle.std.proofs.Common.{◌≡◌, ◌≢◌, ℕ, zero, suc, ◌-◌, ◌≤◌, map, length, slice_get, Some, None, sym, ap, subst, ◌∙◌}
use Rattle.std.proofs.Common.{arith}
use Rattle.std.proofs.lemmas.Option.{same_Some}
use Rattle.eve_grammar.specs.Trace.{Transfer, Trace}
use Rattle.eve_views.specs.declared.fault.Code.TheVariants as code
use Rattle.eve_history.specs.Section.{ByTransfer}
use Rattle.eve_history.specs.SectionHistory.{SectionHistory, section_history, ReachedFrom, how_reached_at}
use Rattle.eve_chains.specs.Committed.{balances_to}
use Rattle.eve_chains.specs.CommittedValues.{Settling, settling}
use Rattle.eve_chains.proofs.LinkedPaths.{none≢some}
use Rattle.eve_agree.specs.ByNumber.{told_state_at}
use Rattle.eve_agree.specs.Agreement.{HasBalancesOfFirst, StandsInAgreement}
use Rattle.eve_agree.proofs.ByNumber.{TellsStates, state_told, told_state_there, how_reached_settled}
use Rattle.eve_evidence.specs.Told.{told_transfer}
use Rattle.eve_evidence_outcomes.specs.Outcomes.{IsTransferredAt, HasThoseOfFirst, IsRightAt}

module _ (t : Trace) (e n place : ℕ) (h : SectionHistory) (is : h ≡ section_history t e) (one : 1 ≤ n)
    (told : (at : ℕ) (x : Transfer) → how_reached_at t e n ≡ Some (ByTransfer at x)
    → (i : ℕ) × (slice_get (section_history t e).ways_reached (n - 1) ≡ Some (ReachedFrom i))
    × (slice_get (section_history t e).transfers i ≡ Some (at, x))) where
  told_there : (x : Transfer) → how_reached_at t e n ≡ Some (ByTransfer place x) → told_state_at h n ≡ Some (place, x)
  told_there x told_reached =
      let from = told place x told_reached in
      told_state_there t e n h is place from.0 x one (from.1, from.2)

  pub no_state : told_state_at h n ≡ None → IsRightAt t e place n
  no_state none x told_reached = none≢some (place, x) (sym none ∙ told_there x told_reached)

  pub other_state : (o : ℕ) (y : Transfer) → told_state_at h n ≡ Some (o, y) → o ≢ place → IsRightAt t e place n
  other_state o y some apart x told_reached =
      absurd (apart (ap (λ (z : ℕ × Transfer). z.0)
      (same_Some (o, y) (place, x) (sym some ∙ told_there x told_reached))))

-- a state that has the balances of the first is the one that was committed
pub right_state : (t : Trace) (e n place : ℕ)
    → ((at : ℕ) (x : Transfer) → how_reached_at t e n ≡ Some (ByTransfer at x)
    → balances_to t e n ≡ map (λ v. v.value) x.rows)
    → HasThoseOfFirst t e n → IsRightAt t e place n
right_state t e n place states those x told_reached =
    (those.first, those.is, sym (states place x told_reached) ∙ those.same)

-- a state that is told of at this byte was transferred there
pub transferred_at : (t : Trace) (e n place : ℕ) (h : SectionHistory) → h ≡ section_history t e → TellsStates t e n
    → (o : ℕ)
    (y : Transfer) → o ≡ place → told_state_at h n ≡ Some (o, y)
    → (transferred : IsTransferredAt t e place n) × (told_transfer o y ≡ told_transfer place transferred.state)
transferred_at t e n place h is tells o y at some = (
  record {
    state = y;
    is = subst (λ (k : ℕ). how_reached_at t e n ≡ Some (ByTransfer k y)) at (state_told t e n h is o y tells some);
  },
  ap (λ (k : ℕ). told_transfer k y) at,
)

-- where all states at this byte are right no fault stands there
pub none_apart : (t : Trace) (e place : ℕ) (s : Settling) (count : ℕ) → s ≡ settling t e → length s.numbers ≤ count
    → ((m : ℕ) → 1 ≤ m → m ≤ count → IsRightAt t e place m) → ¬ StandsInAgreement code.TransferBalances t e place
none_apart t e place s count is whole all stands = by stands.n stands.state stands.is stands.holds
  where
    by : (m : ℕ) (x : Transfer) → how_reached_at t e m ≡ Some (ByTransfer place x) → (HasBalancesOfFirst t m x → ⊥) → ⊥
    by zero x at not = none≢some (ByTransfer place x) at
    by (suc m) x at not =
        let there = how_reached_settled t e (suc m) (ByTransfer place x) s is at in
        not (all (suc m) (omega arith) (omega (arith, there, whole)) x at)
