-- Each state that was transferred has all rows, and its values are the balances.
use Rattle.std.proofs.Common.{◌≡◌, ℕ, ℤ, zero, suc, ◌+◌, ◌*◌, ◌≤◌, ◌==◌, List, [], ◌∷◌, ◌++◌, map, take, length}
use Rattle.std.proofs.Common.{slice_get, Some, pos, All, IsTrue, refl, sym, subst, ap, ◌∙◌, arith}
use Rattle.std.specs.List.{AllByRecursion, list_all}
use Rattle.std.proofs.lemmas.Bool.{and_parts, eqb-true}
use Rattle.std.proofs.lemmas.List.{length-map, take_all, take_more}
use Rattle.std.proofs.lemmas.List.Elements.{All-from_recursion}
use Rattle.std.proofs.lemmas.Option.{same_Some}
use Rattle.eve_smallbank.specs.Access.{balance_of_row}
use Rattle.eve_smallbank.specs.Chain.{values_of}
use Rattle.eve_grammar.specs.Trace.{Transfer, Step, Attempts, Commits, RollsBack, Transfers, Trace, head_of}
use Rattle.eve_grammar.specs.Spelling.{steps_at}
use Rattle.eve_grammar.specs.Limits.{is_number, are_no_debts, is_transfer, is_step, row_count, HasLimits}
use Rattle.eve_frames.specs.declared.transfer.TransferView.{TransferView}
use Rattle.eve_history.specs.Section.{HowReached, ByAttempt, ByTransfer, Skipped, transfers_by}
use Rattle.eve_history.specs.SectionHistory.{SectionHistory, section_history, history, IsRightSection, how_reached_at}
use Rattle.eve_history.proofs.SectionSteps.{steps_fit}
use Rattle.eve_history.proofs.Transfers.{transfers_among, transfers_of_steps, transfers_told}
use Rattle.eve_chains.specs.Committed.{first_rows, balances_to}
use Rattle.eve_chains.specs.ReachedChanges.{transfer_at, HasRows}
use Rattle.eve_chains.proofs.BankSteps.{values_transferred}
use Rattle.eve_chains.proofs.LinkedPaths.{none≢some}
use Rattle.eve_chains.proofs.SerialSections.{rows_next}

abbrev pub HaveRows : ℕ → List (ℕ × Transfer) → Type 0
HaveRows rows xs = AllByRecursion (λ x. length x.1.rows ≡ rows) xs

rows_in : (rows : ℕ) (x : Transfer) → IsTrue (is_transfer rows x) → length x.rows ≡ rows
rows_in rows x fits =
    let one = and_parts (is_number 4 x.seq) _ fits in
    let two = and_parts (is_number 4 x.view) _ one.1 in
    let three = and_parts (are_no_debts 0 x.rows) _ two.1 in
    eqb-true (length x.rows) rows (and_parts (length x.rows == rows) _ three.1).0

rows_among : (rows : ℕ) (steps : List (ℕ × Step)) → IsTrue (list_all (λ x. is_step rows x.1) steps)
    → HaveRows rows (transfers_among steps)
rows_among rows [] fit = tt
rows_among rows ((at, Attempts a) ∷ steps) fit =
    rows_among rows steps (and_parts (is_step rows (Attempts a)) (list_all (λ x. is_step rows x.1) steps) fit).1
rows_among rows ((at, Commits c) ∷ steps) fit =
    rows_among rows steps (and_parts (is_step rows (Commits c)) (list_all (λ x. is_step rows x.1) steps) fit).1
rows_among rows ((at, RollsBack r) ∷ steps) fit =
    rows_among rows steps (and_parts (is_step rows (RollsBack r)) (list_all (λ x. is_step rows x.1) steps) fit).1
rows_among rows ((at, Transfers x) ∷ steps) fit =
    let parts = and_parts (is_step rows (Transfers x)) (list_all (λ x. is_step rows x.1) steps) fit in
    (rows_in rows x parts.0, rows_among rows steps parts.1)

pub states_have_rows : (t : Trace) (e : ℕ) → HasLimits t
    → HaveRows (row_count (head_of t)) (transfers_by (history t e).ways_reached)
states_have_rows t e limits =
    subst (HaveRows (row_count (head_of t))) (sym (transfers_of_steps t e))
    (rows_among (row_count (head_of t)) (steps_at t e) (steps_fit t e limits))

same_transfer : (at from : ℕ) (x y : Transfer) → ByTransfer at x ≡ ByTransfer from y → x ≡ y
same_transfer at from x y e = cc

-- of the state by which a number was reached
pub state_has_rows : (rows : ℕ) (ls : List HowReached) (n at : ℕ) (x : Transfer) → slice_get ls n
    ≡ Some (ByTransfer at x)
    → HaveRows rows (transfers_by ls) → length x.rows ≡ rows
state_has_rows rows [] n at x is all = none≢some (ByTransfer at x) is
state_has_rows rows (ByTransfer from y ∷ ls) zero at x is all =
    ap (λ (z : Transfer). length z.rows)
    (sym (same_transfer from at y x (same_Some (ByTransfer from y) (ByTransfer at x) is))) ∙ all.0
state_has_rows rows (ByAttempt p ∷ ls) zero at x is all = absurd (cc)
state_has_rows rows (Skipped ∷ ls) zero at x is all = absurd (cc)
state_has_rows rows (ByAttempt p ∷ ls) (suc n) at x is all = state_has_rows rows ls n at x is all
state_has_rows rows (ByTransfer from y ∷ ls) (suc n) at x is all = state_has_rows rows ls n at x is all.1
state_has_rows rows (Skipped ∷ ls) (suc n) at x is all = state_has_rows rows ls n at x is all

-- the views of a history's states have all rows
pub views_have_rows : (t : Trace) (e : ℕ) (h : SectionHistory) (states : List TransferView) → HasLimits t
    → h ≡ section_history t e → map transfer_at states ≡ h.transfers
    → All (HasRows (row_count (head_of t))) states
views_have_rows t e h states limits is are =
    All-from_recursion (HasRows (row_count (head_of t))) states
    (each states (subst (HaveRows (row_count (head_of t)))
    (sym (are ∙ ap (λ (k : SectionHistory). k.transfers) is ∙ transfers_told t e)) (states_have_rows t e limits)))
  where
    each : (vs : List TransferView) → HaveRows (row_count (head_of t)) (map transfer_at vs)
        → AllByRecursion (HasRows (row_count (head_of t))) vs
    each [] all = tt
    each (v ∷ vs) all = (all.0, each vs all.1)

-- ---- the balances after such a number

first_prefix : (n : ℕ) (zs : List ℤ) → n ≤ length zs → first_rows n (balance_of_row zs) ≡ take n zs
first_prefix zero zs le = refl
first_prefix (suc n) zs le =
    let more : n + 1 ≡ suc n = omega arith in
    ap (λ (prefix : List ℤ). prefix ++ balance_of_row zs n ∷ []) (first_prefix n zs (omega (arith, le)))
    ∙ sym (take_more zs n (pos 0) (omega (arith, le))) ∙ ap (λ (k : ℕ). take k zs) more

pub all_rows : (zs : List ℤ) (n : ℕ) → n ≡ length zs → first_rows n (balance_of_row zs) ≡ zs
all_rows zs n is = first_prefix n zs (omega (arith, is)) ∙ take_all n zs (omega (arith, is))

pub balances_are_the_state : (t : Trace) (e n at : ℕ) (x : Transfer) → HasLimits t → IsRightSection t e
    → how_reached_at t e n ≡ Some (ByTransfer at x) → balances_to t e n ≡ map (λ v. v.value) x.rows
balances_are_the_state t e zero at x limits right is = none≢some (ByTransfer at x) is
balances_are_the_state t e (suc n) at x limits right is =
    let rows = 2 * length t.customers in
    let values : List ℤ = map (λ v. v.value) x.rows in
    let many : rows ≡ length values =
    sym (length-map x.rows _ ∙ state_has_rows rows (history t e).ways_reached n at x is (states_have_rows t e limits))
    in
    ap (first_rows rows) (ap values_of (rows_next t (history t e).ways_reached n (ByTransfer at x) is)
    ∙ sym (values_transferred x.rows)) ∙ all_rows values rows many
