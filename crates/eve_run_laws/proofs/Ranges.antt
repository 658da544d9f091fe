-- The balances and the replies of a replica lie within the range of money.
use Rattle.std.proofs.Common.{◌≡◌, ℕ, ℤ, pos, zero, suc, ◌*◌, ◌==◌, nat_le, nat_lt, Bool, true, false, cond, ◌&&◌}
use Rattle.std.proofs.Common.{List, [], ◌∷◌, take, fold, length, slice_get, Some, refl, sym, subst, ◌∙◌, IsTrue}
use Rattle.std.specs.Prelude.{slice_index_or}
use Rattle.std.specs.Int.RustNames.{int_le}
use Rattle.std.specs.List.{AllByRecursion, list_all, flat_map}
use Rattle.std.proofs.lemmas.Bool.{and_parts, and_from}
use Rattle.std.proofs.lemmas.List.Folds.{list_all-append}
use Rattle.eve_accounts.specs.Money.{is_balance, is_saving}
use Rattle.eve_accounts.specs.Names.{is_name}
use Rattle.eve_smallbank.specs.declared.entry.Entry.{Entry}
use Rattle.eve_smallbank.specs.declared.versioned.Versioned.{Versioned}
use Rattle.eve_smallbank.specs.Access.{Executed, writes_row}
use Rattle.eve_smallbank.specs.Chain.{Table, left_by, table_after, table_after_all}
use Rattle.eve_smallbank.proofs.Members.{In, here, there, all_in}
use Rattle.eve_grammar.specs.Trace.{Customer, Access, Attempt, Transfer, Step, Attempts, Commits, RollsBack, Transfers}
use Rattle.eve_grammar.specs.Trace.{Trace, head_of, opening_rows}
use Rattle.eve_grammar.specs.Spelling.{steps_at}
use Rattle.eve_grammar.specs.declared.limits.TheConstants.{MOST_REQUESTS, MOST_VERSIONS}
use Rattle.eve_grammar.specs.Limits.{is_between, is_number, is_token, is_reply, is_customer, is_entry}
use Rattle.eve_grammar.specs.Limits.{is_access, is_attempt, is_whole_attempt, are_no_debts, is_versioned, is_transfer}
use Rattle.eve_grammar.specs.Limits.{is_step, row_count, HasLimits}
use Rattle.eve_history.specs.Section.{Placed, HowReached, ByAttempt, ByTransfer, Skipped, came_by, attempts_by}
use Rattle.eve_history.specs.Section.{transfers_by}
use Rattle.eve_history.specs.Fates.{fates_from}
use Rattle.eve_history.specs.SectionHistory.{attempts_among, history, committed_at, is_committed, placed_at}
use Rattle.eve_history.proofs.SectionSteps.{steps_fit}
use Rattle.eve_history.proofs.FateLaws.{committed_are_picked}
use Rattle.eve_history.proofs.Transfers.{transfers_among, transfers_of_steps}
use Rattle.eve_chains.specs.Visible.{opening_table, entries_with, executed_in, execution, transferred_table, with_came}
use Rattle.eve_chains.specs.Committed.{first_rows, values_to, balances_to}
use Rattle.eve_chains.proofs.Attempts.{in_picked}
use Rattle.eve_chains.proofs.Distinct.{in_map}
use Rattle.eve_chains.proofs.LinkedPaths.{none≢some, how_reached_by, in_attempts}
use Rattle.eve_chains.proofs.AttemptRecords.{its_entries, whole_section}
use Rattle.eve_audit.proofs.SameBanks.{rows_length}

-- ---- what is committed lies within the limits of the format

pub committed_whole : (t : Trace) (e : ℕ) → HasLimits t → (q : Placed)
    → In q (attempts_by (history t e).ways_reached) → IsTrue (is_whole_attempt (row_count (head_of t)) q.attempt)
committed_whole t e limits q i =
    all_in (λ x. IsTrue (is_whole_attempt (row_count (head_of t)) x.1)) (whole_section t e limits)
    (in_picked is_committed (attempts_among (steps_at t e)) (fates_from 0 (steps_at t e))
    (subst (λ (xs : List (ℕ × Attempt)). In (placed_at q) xs) (committed_are_picked t e)
    (in_map placed_at (attempts_by (history t e).ways_reached) i)))

-- ---- replies

whole_replies : (rows : ℕ) (a : Attempt) → IsTrue (is_whole_attempt rows a) → IsTrue (list_all is_reply a.replies)
whole_replies rows a h =
    let one = (and_parts (is_number 4 a.seq) _ (and_parts (is_attempt a) _ h).0).1 in
    let two = (and_parts (is_number 4 a.view) _ one).1 in
    let three = (and_parts (is_between 1 MOST_REQUESTS (length a.certificate)) _ two).1 in
    let four = (and_parts (list_all (is_number 2) a.certificate) _ three).1 in
    let five = (and_parts (length a.replies == length a.certificate) _ four).1 in
    (and_parts (list_all is_reply a.replies) (is_token a.token) five).0

pub replies_within : (t : Trace) (e n : ℕ) (q : Placed) → HasLimits t → committed_at t e n ≡ Some q
    → IsTrue (list_all is_reply q.attempt.replies)
replies_within t e zero q limits at = none≢some q at
replies_within t e (suc n) q limits at =
    whole_replies (row_count (head_of t)) q.attempt
    (committed_whole t e limits q (in_attempts (history t e).ways_reached n q
    (how_reached_by (slice_get (history t e).ways_reached n) q at)))

-- ---- tables of balances

-- each row has a balance
abbrev AreBalances : Table → Type 0
AreBalances table = (row : ℕ) → IsTrue (is_balance (table row).value)

-- where all pass, and what stands past the last does too, what stands at any place passes
passes_at : {A : Type 0} (p : A → Bool) (xs : List A) (i : ℕ) (d : A) → IsTrue (p d) → IsTrue (list_all p xs)
    → IsTrue (p (slice_index_or xs i d))
passes_at p [] i d other all = other
passes_at p (x ∷ xs) zero d other all = (and_parts (p x) (list_all p xs) all).0
passes_at p (x ∷ xs) (suc i) d other all = passes_at p xs i d other (and_parts (p x) (list_all p xs) all).1

opening_within : (cs : List Customer) → IsTrue (list_all is_customer cs)
    → IsTrue (list_all is_balance (opening_rows cs))
opening_within [] h = refl
opening_within (c ∷ cs) h =
    let parts = and_parts (is_customer c) (list_all is_customer cs) h in
    let both = and_parts (is_saving c.saving) (is_balance c.checking) (and_parts (is_name c.name) _ parts.0).1 in
    and_from (is_balance c.saving) (is_balance c.checking && list_all is_balance (opening_rows cs))
    (and_parts (is_balance c.saving) (int_le (pos 0) c.saving) both.0).0
    (and_from (is_balance c.checking) (list_all is_balance (opening_rows cs)) both.1 (opening_within cs parts.1))

opening_balances : (t : Trace) → HasLimits t → AreBalances (opening_table t)
opening_balances t limits row =
    passes_at is_balance (opening_rows t.customers) row (pos 0) refl (opening_within t.customers limits.customers)

leaves_balance : (rows : ℕ) (e : Entry) → IsTrue (is_entry rows e) → IsTrue (is_balance e.after)
leaves_balance rows e h =
    (and_parts (is_balance e.after) _
    (and_parts (is_balance e.seen) _
    (and_parts (nat_le e.version MOST_VERSIONS) _ (and_parts (nat_lt e.row rows) _ h).1).1).1).0

balances_after : (rows : ℕ) (table : Table) (es : List Entry) → AreBalances table
    → IsTrue (list_all (is_entry rows) es) → AreBalances (table_after table es)
balances_after rows table [] all h = all
balances_after rows table (e ∷ es) all h =
    let parts = and_parts (is_entry rows e) (list_all (is_entry rows) es) h in
    balances_after rows (λ row. cond (writes_row row e) (left_by e) (table row)) es
    (λ row. by (writes_row row e) row (leaves_balance rows e parts.0)) parts.1
  where
    by : (b : Bool) (row : ℕ) → IsTrue (is_balance e.after)
        → IsTrue (is_balance (cond b (left_by e) (table row)).value)
    by true row left = left
    by false row left = all row

-- what a request noted lies within the limits of the format
abbrev NotesWithin : ℕ → Executed → Type 0
NotesWithin rows x = IsTrue (list_all (is_entry rows) x.entries)

balances_after_all : (rows : ℕ) (table : Table) (xs : List Executed) → AreBalances table
    → AllByRecursion (NotesWithin rows) xs → AreBalances (table_after_all table xs)
balances_after_all rows table [] all within = all
balances_after_all rows table (x ∷ xs) all within =
    balances_after_all rows (table_after table x.entries) xs (balances_after rows table x.entries all within.0) within.1

-- ---- after batches

entries_within : (rows : ℕ) (xs : List Access) (index : ℕ) → IsTrue (list_all (is_access rows) xs)
    → IsTrue (list_all (is_entry rows) (entries_with xs index))
entries_within rows [] index h = refl
entries_within rows (x ∷ xs) index h =
    let parts = and_parts (is_access rows x) (list_all (is_access rows) xs) h in
    by (x.index == index) (its_entries rows x parts.0) (entries_within rows xs index parts.1)
  where
    by : (b : Bool) → IsTrue (list_all (is_entry rows) x.entries)
        → IsTrue (list_all (is_entry rows) (entries_with xs index))
        → IsTrue (list_all (is_entry rows) (cond b x.entries (entries_with xs index)))
    by true this rest = this
    by false this rest = rest

execution_within : (rows : ℕ) (t : Trace) (a : Attempt) (order : List ℕ) → IsTrue (is_whole_attempt rows a)
    → AllByRecursion (NotesWithin rows) (executed_in t a order)
execution_within rows t a [] h = tt
execution_within rows t a (index ∷ order) h = (
  entries_within rows a.accesses index
      (and_parts (length a.accesses == length a.certificate) (list_all (is_access rows) a.accesses)
      (and_parts (is_attempt a) _ h).1).1,
  execution_within rows t a order h,
)

-- a state that is transferred lies within the limits
abbrev IsWithin : ℕ → ℕ × Transfer → Type 0
IsWithin rows x = IsTrue (is_transfer rows x.1)

states_among : (rows : ℕ) (steps : List (ℕ × Step)) → IsTrue (list_all (λ x. is_step rows x.1) steps)
    → AllByRecursion (IsWithin rows) (transfers_among steps)
states_among rows [] fit = tt
states_among rows ((at, Attempts a) ∷ steps) fit = states_among rows steps
    (and_parts (is_step rows (Attempts a)) (list_all (λ x. is_step rows x.1) steps) fit).1
states_among rows ((at, Commits c) ∷ steps) fit = states_among rows steps
    (and_parts (is_step rows (Commits c)) (list_all (λ x. is_step rows x.1) steps) fit).1
states_among rows ((at, RollsBack r) ∷ steps) fit = states_among rows steps
    (and_parts (is_step rows (RollsBack r)) (list_all (λ x. is_step rows x.1) steps) fit).1
states_among rows ((at, Transfers x) ∷ steps) fit =
    let parts = and_parts (is_step rows (Transfers x)) (list_all (λ x. is_step rows x.1) steps) fit in
    (parts.0, states_among rows steps parts.1)

states_within : (t : Trace) (e : ℕ) → HasLimits t
    → AllByRecursion (IsWithin (row_count (head_of t))) (transfers_by (history t e).ways_reached)
states_within t e limits =
    let rows = row_count (head_of t) in
    subst (AllByRecursion (IsWithin rows)) (sym (transfers_of_steps t e))
    (states_among rows (steps_at t e) (steps_fit t e limits))

state_balances : (rows : ℕ) (x : Transfer) → IsTrue (is_transfer rows x) → AreBalances (transferred_table x.rows)
state_balances rows x fits row =
    let one = and_parts (is_number 4 x.seq) _ fits in
    let two = and_parts (is_number 4 x.view) _ one.1 in
    let three = and_parts (are_no_debts 0 x.rows) _ two.1 in
    let four = and_parts (length x.rows == rows) (list_all is_versioned x.rows) three.1 in
    let none : Versioned = record { version = 0; value = pos 0 } in
    (and_parts (nat_le (transferred_table x.rows row).version MOST_VERSIONS) _
    (passes_at is_versioned x.rows row none refl four.1)).1

values_along : (rows : ℕ) (t : Trace) (ls : List HowReached) (n : ℕ)
    → ((q : Placed) → In q (attempts_by ls) → IsTrue (is_whole_attempt rows q.attempt))
    → AllByRecursion (IsWithin rows) (transfers_by ls) → (table : Table) → AreBalances table
    → AreBalances (fold (with_came t) table (flat_map came_by (take n ls)))
values_along rows t ls zero whole states table all = all
values_along rows t [] (suc n) whole states table all = all
values_along rows t (ByAttempt p ∷ ls) (suc n) whole states table all =
    values_along rows t ls n (λ q i. whole q (there i)) states
    (table_after_all table (execution t p.attempt))
    (balances_after_all rows table (execution t p.attempt) all
    (execution_within rows t p.attempt p.attempt.certificate (whole p here)))
values_along rows t (ByTransfer at x ∷ ls) (suc n) whole states table all =
    values_along rows t ls n whole states.1 (transferred_table x.rows) (state_balances rows x states.0)
values_along rows t (Skipped ∷ ls) (suc n) whole states table all = values_along rows t ls n whole states table all

values_within : (t : Trace) (e n : ℕ) → HasLimits t → (row : ℕ) → IsTrue (is_balance (values_to t e n row))
values_within t e n limits = values_along (row_count (head_of t)) t (history t e).ways_reached n
    (committed_whole t e limits) (states_within t e limits) (opening_table t) (opening_balances t limits)

first_within : (values : ℕ → ℤ) → ((row : ℕ) → IsTrue (is_balance (values row))) → (n : ℕ)
    → IsTrue (list_all is_balance (first_rows n values))
first_within values all zero = refl
first_within values all (suc n) =
    list_all-append is_balance (first_rows n values) (values n ∷ [])
    ∙ and_from (list_all is_balance (first_rows n values)) (is_balance (values n) && true) (first_within values all n)
    (and_from (is_balance (values n)) true (all n) refl)

pub balances_within : (t : Trace) (e n : ℕ) → HasLimits t → IsTrue (list_all is_balance (balances_to t e n))
balances_within t e n limits = first_within (values_to t e n) (values_within t e n limits) (2 * length t.customers)

pub balances_count : (t : Trace) (e n : ℕ) → length (balances_to t e n) ≡ 2 * length t.customers
balances_count t e n = rows_length (2 * length t.customers) (values_to t e n)
