-- Replicas that agreed on all numbers so far have the same balances before the next.
use Rattle.std.proofs.Common.{◌≡◌, ℕ, zero, suc, ◌-◌, ◌<◌, ◌≤◌, ℤ, List, [], ◌∷◌, map, length, slice_get, get_or}
use Rattle.std.proofs.Common.{Option, Some, IfSome, ◌++◌, ◌*◌, refl, sym, ap, subst, ◌∙◌, inl}
use Rattle.std.proofs.Common.{inr, arith, length-append}
use Rattle.std.specs.Prelude.{pos, IsTrue}
use Rattle.std.proofs.lemmas.Bool.{cases_lt}
use Rattle.std.proofs.lemmas.Option.{slice_get_read, same_Some}
use Rattle.eve_smallbank.specs.Access.{balance_of_row}
use Rattle.eve_grammar.specs.Trace.{Transfer, Trace}
use Rattle.eve_views.specs.declared.fault.Fault.{Fault}
use Rattle.eve_history.specs.Section.{Placed, ByTransfer}
use Rattle.eve_history.specs.SectionHistory.{how_reached_at, committed_at, is_reached, IsRightSection}
use Rattle.eve_chains.specs.Committed.{first_rows, values_to, balances_to}
use Rattle.eve_chains.specs.CommittedValues.{Settling, settling, settlings, values_in, HaveSameBalances}
use Rattle.eve_agree.specs.Agreement.{first_to_commit, HaveSameOutcome}
use Rattle.eve_agree.specs.inner.NumbersJudged.{IsAfter, AgreesIn, AllHaveSame, bound_of, JudgedTo}
use Rattle.eve_agree.proofs.TokensInOrder.{rows_told}
use Rattle.eve_agree.proofs.ByNumber.{there_some, reached_so, reached_before}
use Rattle.eve_agree.proofs.Outcomes.{settling_at, settlings_count, first_there}
use Rattle.eve_agree.proofs.AllBalances.{push_left, push_here}

-- ---- the rows of a list of balances

row_count : (n : ℕ) (values : ℕ → ℤ) → length (first_rows n values) ≡ n
row_count zero values = refl
row_count (suc n) values =
    let before = row_count n values in
    let more = length-append (first_rows n values) (values n ∷ []) in
    omega arith

row_read : (n row : ℕ) (values : ℕ → ℤ) → row < n → get_or (first_rows n values) row (pos 0) ≡ values row
row_read zero row values lt = absurd (omega arith)
row_read (suc n) row values lt =
    let count = row_count n values in
    elim (cases_lt row n) [
      | inl early ↦ push_left (first_rows n values) (values n) (pos 0) row (omega arith) ∙ row_read n row values early
      | inr late ↦
          let at : row ≡ length (first_rows n values) = omega arith in
          let is : n ≡ row = omega arith in
          ap (λ (k : ℕ). get_or (first_rows n values ++ values n ∷ []) k (pos 0)) at
          ∙ push_here (first_rows n values) (values n) (pos 0) ∙ ap values is
    ]

same_rows : (n row : ℕ) (v w : ℕ → ℤ) → first_rows n v ≡ first_rows n w → row < n → v row ≡ w row
same_rows n row v w same lt = sym (row_read n row v lt) ∙ ap (λ (xs : List ℤ). get_or xs row (pos 0)) same
    ∙ row_read n row w lt

-- ---- two replicas

-- before the first batch
pub same_opening : (t : Trace) (e f : ℕ) (s u : Settling) → s ≡ settling t e → u ≡ settling t f → HaveSameBalances s u 0
unfolding settling values_in
same_opening t e f s u is it = record {
  rows = ap (λ (x : Settling). length x.opening) it ∙ sym (ap (λ (x : Settling). length x.opening) is);
  values = λ row lt. ap (λ (x : Settling). balance_of_row x.opening row) is
      ∙ sym (ap (λ (x : Settling). balance_of_row x.opening row) it);
}

-- where the lists of their balances are the same
pub same_lists_after : (s u : Settling) (n : ℕ) (b c : List ℤ) → IsAfter s n b → IsAfter u n c → b ≡ c
    → HaveSameBalances s u n
same_lists_after s u n b c own its same = record {
  rows = sym its.rows ∙ sym (ap (λ (xs : List ℤ). length xs) same) ∙ own.rows;
  values = λ row lt. (λ i. sym own.values i row) ∙ ap (λ (xs : List ℤ). balance_of_row xs row) same
      ∙ (λ i. its.values i row);
}

module _ (t : Trace) (law : (e n : ℕ) → values_in (settling t e) n ≡ values_to t e n) where
  same_balances : (e f n : ℕ) → balances_to t e n ≡ balances_to t f n
      → HaveSameBalances (settling t e) (settling t f) n
  same_balances e f n same = record {
    rows = rows_told t f ∙ sym (rows_told t e);
    values = λ row lt.
        let told = rows_told t e in
        (λ i. law e n i row)
        ∙ same_rows (2 * length t.customers) row (values_to t e n) (values_to t f n) same (omega arith)
        ∙ (λ i. sym (law f n) i row);
  }

  module _ (states : (e n at : ℕ) (x : Transfer) → how_reached_at t e n ≡ Some (ByTransfer at x) → balances_to t e n
      ≡ map (λ v. v.value) x.rows) where
    -- it has the balances of the first that committed the batch
    with_first : (e n : ℕ) → AgreesIn t e (suc n) → IsTrue (is_reached t e (suc n))
        → (g : ℕ) × (first_to_commit t (suc n) ≡ Some g) × (balances_to t e (suc n) ≡ balances_to t g (suc n))
    with_first e n agrees there = elim (reached_so t e n there) [
      | inl own ↦
          let first = first_there t e (suc n) own.0 own.1 in
          let same = agrees.outcome (there_some (committed_at t e (suc n)) own.0 own.1) in
          let here : IfSome (Some first.0) (λ g. HaveSameOutcome t e g (suc n)) =
          subst (λ (o : Option ℕ). IfSome o (λ g. HaveSameOutcome t e g (suc n))) first.1 same in
          (first.0, first.1, here.balances)
      | inr state ↦
          let has = agrees.state state.0 state.1 state.2 in
          (has.0, has.1, states e (suc n) state.0 state.1 state.2 ∙ has.2)
    ]

    have_same : (n e : ℕ) → ((i m : ℕ) → i ≤ e → m ≤ n → AgreesIn t i m) → AllHaveSame t e n
    have_same zero e agree i j low also own its = same_opening t i j (settling t i) (settling t j) refl refl
    have_same (suc n) e agree i j low also own its =
        let mine = with_first i n (agree i (suc n) low (omega arith)) own in
        let yours = with_first j n (agree j (suc n) also (omega arith)) its in
        let one : mine.0 ≡ yours.0 = same_Some mine.0 yours.0 (sym mine.1 ∙ yours.1) in
        same_balances i j (suc n) (mine.2 ∙ ap (λ (g : ℕ). balances_to t g (suc n)) one ∙ sym yours.2)

    -- of the replicas that are left
    pub all_have_same : (n e : ℕ) (least : Option Fault) → JudgedTo t n least
        → e < bound_of (length t.sections) least → AllHaveSame t e n
    all_have_same n e least judged lt = have_same n e (λ i m le low. judged.agree i m (omega arith) low)

-- ---- one of all

pub settling_read : (t : Trace) (us : List Settling) (e : ℕ) (s : Settling) → us ≡ settlings t → e < length t.sections
    → s ≡ get_or us e s → s ≡ settling t e
settling_read t us e s told there is =
    let count = settlings_count t in
    let many = ap (λ (xs : List Settling). length xs) told in
    let got = slice_get_read us (length us) e s refl (omega arith) is in
    same_Some s (settling t e) (sym got ∙ ap (λ (xs : List Settling). slice_get xs e) told ∙ settling_at t e there)

-- two that committed the next batch have the same balances before it
pub before_next : (t : Trace) (e f n : ℕ) (p q : Placed) (s u : Settling) → s ≡ settling t e → u ≡ settling t f
    → ((e : ℕ) → IsRightSection t e) → committed_at t e n ≡ Some p → committed_at t f n ≡ Some q → f ≤ e
    → AllHaveSame t e (n - 1) → HaveSameBalances s u (n - 1)
before_next t e f n p q s u is it right own its le same =
    subst (λ (x : Settling). HaveSameBalances x u (n - 1)) (sym is)
    (subst (λ (y : Settling). HaveSameBalances (settling t e) y (n - 1)) (sym it)
    (same e f (omega arith) le (reached_before t e n p (right e) own) (reached_before t f n q (right f) its)))
