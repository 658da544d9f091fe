-- A ledger after a commit and after a rollback, and the state that it lends.
use Rattle.std.proofs.Common.{◌≡◌, ℕ, suc, ◌+◌, ◌<◌, ◌≤◌, ◌==◌, nat_le, Bool, true, false, cond, ◌||◌, ◌&&◌, ltb, leb}
use Rattle.std.proofs.Common.{IsTrue, List, [], ◌∷◌, map, length, get_or, refl, sym, subst, ap, ap₂, ◌∙◌, inl, inr, ◌⊎◌}
use Rattle.std.proofs.Common.{arith}
use Rattle.std.specs.Prelude.{remove}
use Rattle.std.specs.List.{AllByRecursion, list_all, list_any}
use Rattle.std.specs.List.Sorted.{IsPermutation, IsNonDecreasing}
use Rattle.std.proofs.lemmas.Bool.{cases_lt, and_parts, and_from, or_left, or_right, eq-eqb, eqb-true, lt-ltb}
use Rattle.std.proofs.lemmas.Bool.{leb-true, leb-false, false≢true}
use Rattle.std.proofs.lemmas.List.Sorted.{IsPermutation-sym}
use Rattle.std.proofs.lemmas.List.Folds.{list_all-append}
use Rattle.eve_accounts.specs.Money.{is_balance}
use Rattle.eve_smallbank.specs.declared.entry.Entry.{Entry}
use Rattle.eve_smallbank.specs.Access.{is_write, writes_row}
use Rattle.eve_smallbank.specs.Chain.{Table, table_after}
use Rattle.eve_smallbank.specs.declared.versioned.Versioned.{Versioned}
use Rattle.std.proofs.lemmas.List.{length-map}
use Rattle.eve_smallbank.proofs.Members.{In, here, there, all_in, all_from_in, all_of_list_all, in_cons}
use Rattle.eve_grammar.specs.Trace.{Rollback}
use Rattle.eve_grammar.specs.declared.limits.TheConstants.{MOST_VERSIONS}
use Rattle.eve_grammar.specs.Limits.{is_entry, is_restore, is_rising, is_rollback, is_number}
use Rattle.eve_grammar.specs.declared.restore.Restore.{Restore}
use Rattle.eve_attempts.specs.Ledgers.{Opened, Rows, Ledger, ledger_rows, table_of_rows, table_now, values_before}
use Rattle.eve_attempts.specs.Ledgers.{writes_in}
use Rattle.eve_attempts.specs.Ledgers.{open_writes, rows_committed, is_write_in, AreLaid, IsLedger}
use Rattle.eve_attempts.specs.CommitsAndRollbacks.{restore_in, AreRestores, RollsBack}
use Rattle.eve_attempts.specs.inner.RestoredRows.{entry_rows, rising_from}
use Rattle.eve_attempts.specs.Transfers.{rows_of_state, IsStateOf}
use Rattle.eve_attempts.proofs.TickOrder.{all_moved}
use Rattle.eve_attempts.proofs.TableLaws.{laid_undone, write_there}

-- ---- commits

-- a list without its first item
pub opened_split : (os : List Opened) (first : Opened) (others : List Opened) → 0 < length os
    → first ≡ get_or os 0 first → others ≡ remove os 0 → os ≡ first ∷ others
opened_split [] first others some is rest = absurd (omega arith)
opened_split (o ∷ os) first others some is rest = ap₂ (λ (p : Opened) (ps : List Opened). p ∷ ps) (sym is) (sym rest)

module _ (s : Ledger) (first : Opened) (others : List Opened) (is : s.opened ≡ first ∷ others) (l : IsLedger s) where
  laid : AreLaid (rows_committed s) (first ∷ others) (table_now s)
  laid = subst (λ (os : List Opened). AreLaid (rows_committed s) os (table_now s)) is l.laid

  pub committed_next : values_before (table_now s) (writes_in others) ≡ table_after (rows_committed s) first.written
  committed_next = laid_undone (table_after (rows_committed s) first.written) others (table_now s) laid.1

  pub ledger_next : IsLedger (record s { opened = others; committed = s.committed + 1 })
  ledger_next = record {
    counted = let h : length s.opened ≡ length (first ∷ others) = ap (λ (os : List Opened). length os) is in
        omega (arith, l.counted);
    room = let h : length s.opened ≡ length (first ∷ others) = ap (λ (os : List Opened). length os) is in
        omega (arith, l.room);
    written = (and_parts (list_all (is_write_in (ledger_rows s)) first.written) _
        (sym (list_all-append (is_write_in (ledger_rows s)) first.written (writes_in others))
        ∙ ap (λ (os : List Opened). list_all (is_write_in (ledger_rows s)) (writes_in os)) (sym is) ∙ l.written)).1;
    laid = subst (λ (t : Table). AreLaid t others (table_now s)) (sym committed_next) laid.1;
  }

-- ---- rows that rise

-- no number is below the least
from_least : (least : ℕ) (ns : List ℕ) → AllByRecursion (λ n. least ≤ n) (rising_from least ns)
from_least least [] = tt
from_least least (n ∷ ns) = by (nat_le least n) refl (from_least (n + 1) ns) (from_least least ns)
  where
    weaker : (m : ℕ) (xs : List ℕ) → least ≤ m → AllByRecursion (λ n. m + 1 ≤ n) xs → AllByRecursion (λ n. least ≤ n) xs
    weaker m [] le all = tt
    weaker m (x ∷ xs) le all = (let h = all.0 in omega arith, weaker m xs le all.1)

    by : (b : Bool) → nat_le least n ≡ b → AllByRecursion (λ m. n + 1 ≤ m) (rising_from (n + 1) ns)
        → AllByRecursion (λ m. least ≤ m) (rising_from least ns)
        → AllByRecursion (λ m. least ≤ m) (cond b (n ∷ rising_from (n + 1) ns) (rising_from least ns))
    by true e one two = (leb-true least n e, weaker n (rising_from (n + 1) ns) (leb-true least n e) one)
    by false e one two = two

-- the restores of these rows
abbrev restores_of : Table → List ℕ → List Restore
restores_of table ns = map (restore_in table) ns

above : (table : Table) (n : ℕ) (ns : List ℕ) → AllByRecursion (λ m. n + 1 ≤ m) ns
    → list_all (λ q. ltb n q.row) (restores_of table ns) ≡ true
above table n [] all = refl
above table n (m ∷ ns) all = and_from (ltb n m) _ (lt-ltb n m (let h = all.0 in omega arith)) (above table n ns all.1)

pub rising_restores : (table : Table) (least : ℕ) (ns : List ℕ) → is_rising (restores_of table (rising_from least ns))
    ≡ true
rising_restores table least [] = refl
rising_restores table least (n ∷ ns) = by (nat_le least n) (rising_restores table (n + 1) ns)
    (rising_restores table least ns)
  where
    by : (b : Bool) → is_rising (restores_of table (rising_from (n + 1) ns)) ≡ true
        → is_rising (restores_of table (rising_from least ns)) ≡ true
        → is_rising (restores_of table (cond b (n ∷ rising_from (n + 1) ns) (rising_from least ns))) ≡ true
    by true one two = and_from (list_all (λ q. ltb n q.row) (restores_of table (rising_from (n + 1) ns))) _
        (above table n (rising_from (n + 1) ns) (from_least (n + 1) ns)) one
    by false one two = two

-- what holds of all numbers holds of those that rise
all_rising : (P : ℕ → Type 0) (least : ℕ) (ns : List ℕ) → AllByRecursion P ns → AllByRecursion P (rising_from least ns)
all_rising P least [] all = tt
all_rising P least (n ∷ ns) all = by (nat_le least n) (all_rising P (n + 1) ns all.1) (all_rising P least ns all.1)
  where
    by : (b : Bool) → AllByRecursion P (rising_from (n + 1) ns) → AllByRecursion P (rising_from least ns)
        → AllByRecursion P (cond b (n ∷ rising_from (n + 1) ns) (rising_from least ns))
    by true one two = (all.0, one)
    by false one two = two

-- numbers that don't fall, from the first on
abbrev DontFall : List ℕ → Type 0
DontFall [] = Unit {0}
DontFall (n ∷ ns) = AllByRecursion (λ m. n ≤ m) ns × DontFall ns

-- each of the numbers rises, or stands below the least
kept : (least : ℕ) (ns : List ℕ) → DontFall ns → (m : ℕ) → In m ns → least ≤ m → In m (rising_from least ns)
kept least [] up m i le = elim i [ ]
kept least (n ∷ ns) up m i le = by (nat_le least n) refl (in_cons ns i)
    (λ j lt. kept (n + 1) ns up.1 m j (omega arith)) (λ j le. kept least ns up.1 m j le)
  where
    by : (b : Bool) → nat_le least n ≡ b → (m ≡ n) ⊎ In m ns → (In m ns → n < m → In m (rising_from (n + 1) ns))
        → (In m ns → least ≤ m → In m (rising_from least ns))
        → In m (cond b (n ∷ rising_from (n + 1) ns) (rising_from least ns))
    by true e (inl same) later further = subst (λ (k : ℕ). In k (n ∷ rising_from (n + 1) ns)) (sym same) here
    by true e (inr i) later further = elim (cases_lt n m) [
      | inl lt ↦ there (later i lt)
      | inr ge ↦ let up_to : n ≤ m = all_in (λ k. n ≤ k) up.0 i in let same : m ≡ n = omega arith in
          subst (λ (k : ℕ). In k (n ∷ rising_from (n + 1) ns)) (sym same) here
    ]
    by false e (inl same) later further = absurd (let h = leb-false least n e in omega arith)
    by false e (inr i) later further = further i le

-- ---- rollbacks

dont_fall : (ns : List ℕ) → IsNonDecreasing ns → DontFall ns
dont_fall [] up = tt
dont_fall (n ∷ ns) up = (
  all_from ns (λ i lt. up 0 (suc i) 0 (omega arith) (omega arith)),
  dont_fall ns (λ i j d le lt. up (suc i) (suc j) d (omega arith) (omega arith)),
)
  where
    all_from : (ms : List ℕ) → ((i : ℕ) → i < length ms → n ≤ get_or ms i 0) → AllByRecursion (λ m. n ≤ m) ms
    all_from [] each = tt
    all_from (m ∷ ms) each = (each 0 (omega arith), all_from ms (λ i lt. each (suc i) (omega arith)))

-- an entry that writes a row
some_write : (rows row : ℕ) (es : List Entry) → list_all (is_write_in rows) es ≡ true → In row (entry_rows es)
    → list_any (writes_row row) es ≡ true
some_write rows row [] all i = elim i [ ]
some_write rows row (e ∷ es) all i = by (in_cons (entry_rows es) i)
    (some_write rows row es (and_parts (is_write_in rows e) (list_all (is_write_in rows) es) all).1)
  where
    by : (row ≡ e.row) ⊎ In row (entry_rows es) → (In row (entry_rows es) → list_any (writes_row row) es ≡ true)
        → (writes_row row e || list_any (writes_row row) es) ≡ true
    by (inl same) rest = or_left (writes_row row e) (list_any (writes_row row) es)
        (and_from (is_write e.kind) (e.row == row)
        (and_parts (is_write e.kind) _ (and_parts (is_write_in rows e) (list_all (is_write_in rows) es) all).0).0
        (eq-eqb e.row row (sym same)))
    by (inr j) rest = or_right (writes_row row e) (list_any (writes_row row) es) (rest j)

-- a row that was written is there, and what the first write of it saw lies within the limits
restore_fits : (rows : ℕ) (table : Table) (row : ℕ) (es : List Entry) → list_all (is_write_in rows) es ≡ true
    → list_any (writes_row row) es ≡ true → is_restore rows (restore_in (values_before table es) row) ≡ true
restore_fits rows table row [] all some = absurd (false≢true some)
restore_fits rows table row (e ∷ es) all some =
    by (writes_row row e) refl some
    (λ h. restore_fits rows table row es (and_parts (is_write_in rows e) (list_all (is_write_in rows) es) all).1 h)
  where
    by : (b : Bool) → writes_row row e ≡ b → (b || list_any (writes_row row) es) ≡ true
        → (list_any (writes_row row) es ≡ true → is_restore rows (restore_in (values_before table es) row) ≡ true)
        → is_restore rows (record {
          row = row;
          version = (cond b (record { version = e.version; value = e.seen })
              (values_before table es row)).version;
          value = (cond b (record { version = e.version; value = e.seen }) (values_before table es row)).value;
        }) ≡ true
    by true is some rest =
        let right = (and_parts (is_write e.kind) (is_entry rows e)
        (and_parts (is_write_in rows e) (list_all (is_write_in rows) es) all).0).1 in
        let one = and_parts (ltb e.row rows) _ right in
        let two = and_parts (leb e.version MOST_VERSIONS) _ one.1 in
        let three = and_parts (is_balance e.seen) _ two.1 in
        let same : e.row ≡ row = eqb-true e.row row (and_parts (is_write e.kind) (e.row == row) is).1 in
        and_from (ltb row rows) _ (ap (λ (r : ℕ). ltb r rows) (sym same) ∙ one.0)
        (and_from (leb e.version MOST_VERSIONS) (is_balance e.seen) two.0 three.0)
    by false is some rest = rest some

rows_in : (P : ℕ → Type 0) (es : List Entry) → ((e : Entry) → In e es → P e.row) → AllByRecursion P (entry_rows es)
rows_in P [] each = tt
rows_in P (e ∷ es) each = (each e here, rows_in P es (λ d i. each d (there i)))

row_in_rows : (e : Entry) (es : List Entry) → In e es → In e.row (entry_rows es)
row_in_rows e [] i = elim i [ ]
row_in_rows e (d ∷ es) i = by (in_cons es i) (row_in_rows e es)
  where
    by : (e ≡ d) ⊎ In e es → (In e es → In e.row (entry_rows es)) → In e.row (d.row ∷ entry_rows es)
    by (inl same) rest = subst (λ (x : Entry). In e.row (x.row ∷ entry_rows es)) same here
    by (inr j) rest = there (rest j)

-- some restore is of the row
some_restore : (table : Table) (row : ℕ) (ns : List ℕ) → In row ns → list_any (λ r. r.row == row) (restores_of table ns)
    ≡ true
some_restore table row [] i = elim i [ ]
some_restore table row (n ∷ ns) i = by (in_cons ns i) (some_restore table row ns)
  where
    by : (row ≡ n) ⊎ In row ns → (In row ns → list_any (λ r. r.row == row) (restores_of table ns) ≡ true)
        → ((n == row) || list_any (λ r. r.row == row) (restores_of table ns)) ≡ true
    by (inl same) rest = or_left (n == row) (list_any (λ r. r.row == row) (restores_of table ns))
        (eq-eqb n row (sym same))
    by (inr j) rest = or_right (n == row) (list_any (λ r. r.row == row) (restores_of table ns)) (rest j)

all_restores : (P : Restore → Type 0) (table : Table) (ns : List ℕ) → AllByRecursion (λ n. P (restore_in table n)) ns
    → AllByRecursion P (restores_of table ns)
all_restores P table [] all = tt
all_restores P table (n ∷ ns) all = (all.0, all_restores P table ns all.1)

tests_restores : (p : Restore → Bool) (table : Table) (ns : List ℕ)
    → AllByRecursion (λ n. p (restore_in table n) ≡ true) ns → list_all p (restores_of table ns) ≡ true
tests_restores p table [] all = refl
tests_restores p table (n ∷ ns) all = and_from (p (restore_in table n)) _ all.0 (tests_restores p table ns all.1)

-- the numbers are the rows that the open attempts wrote
module _ (s : Ledger) (l : IsLedger s) (numbers : List ℕ) (moved : IsPermutation (entry_rows (open_writes s)) numbers)
    (up : IsNonDecreasing numbers) where
  were_written : AllByRecursion (λ n. IsTrue (list_any (writes_row n) (open_writes s))) numbers
  were_written = all_moved (λ (n : ℕ). IsTrue (list_any (writes_row n) (open_writes s))) (entry_rows (open_writes s))
      numbers moved
      (rows_in (λ n. IsTrue (list_any (writes_row n) (open_writes s))) (open_writes s)
      (λ e i. some_write (ledger_rows s) e.row (open_writes s) l.written (row_in_rows e (open_writes s) i)))

  pub are_there : AllByRecursion (λ n. n < ledger_rows s) numbers
  are_there = all_moved (λ (n : ℕ). n < ledger_rows s) (entry_rows (open_writes s)) numbers moved
      (rows_in (λ n. n < ledger_rows s) (open_writes s)
      (λ e i. (write_there (ledger_rows s) e
      (all_of_list_all (is_write_in (ledger_rows s)) (open_writes s) l.written i)).1))

  pub are_restores : AreRestores s (restores_of (rows_committed s) (rising_from 0 numbers))
  are_restores = record {
    written = all_restores (λ r. IsTrue (list_any (writes_row r.row) (open_writes s))) (rows_committed s)
        (rising_from 0 numbers) (all_rising (λ n. IsTrue (list_any (writes_row n) (open_writes s))) 0 numbers
        were_written);
    all = all_from_in (λ e. IsTrue
        (list_any (λ r. r.row == e.row) (restores_of (rows_committed s) (rising_from 0 numbers)))) (open_writes s)
        (λ e i. some_restore (rows_committed s) e.row (rising_from 0 numbers)
        (kept 0 numbers (dont_fall numbers up) e.row
        (all_in (λ n. In n numbers)
        (all_moved (λ n. In n numbers) numbers (entry_rows (open_writes s))
        (IsPermutation-sym (entry_rows (open_writes s)) numbers moved)
        (all_from_in (λ n. In n numbers) numbers (λ n j. j))) (row_in_rows e (open_writes s) i)) (omega arith)));
    committed = all_restores (λ r. r ≡ restore_in (rows_committed s) r.row) (rows_committed s) (rising_from 0 numbers)
        (all_from_in (λ n. restore_in (rows_committed s) n ≡ restore_in (rows_committed s) n) (rising_from 0 numbers)
        (λ n i. refl));
  }

  pub whole_rollback : (r : Rollback) → r.to < 4294967296 → r.view < 4294967296 → r.restores
      ≡ restores_of (rows_committed s) (rising_from 0 numbers) → IsTrue (is_rollback (ledger_rows s) r)
  whole_rollback r to view are =
      and_from (is_number 4 r.to) _ (lt-ltb r.to 4294967296 to)
      (and_from (is_number 4 r.view) _ (lt-ltb r.view 4294967296 view)
      (subst (λ (rs : List Restore). (is_rising rs && list_all (is_restore (ledger_rows s)) rs) ≡ true) (sym are)
      (and_from (is_rising (restores_of (rows_committed s) (rising_from 0 numbers))) _
      (rising_restores (rows_committed s) 0 numbers)
      (tests_restores (is_restore (ledger_rows s)) (rows_committed s) (rising_from 0 numbers)
      (all_rising (λ n. is_restore (ledger_rows s) (restore_in (rows_committed s) n) ≡ true) 0 numbers
      (all_from_in (λ n. is_restore (ledger_rows s) (restore_in (rows_committed s) n) ≡ true) numbers
      (λ n i. restore_fits (ledger_rows s) (table_now s) n (open_writes s) l.written
      (all_in (λ m. IsTrue (list_any (writes_row m) (open_writes s))) were_written i))))))))

-- with nothing open
pub ledger_empty : (s : Ledger) (rows : Rows) (view : ℕ) (serial : Bool) → IsLedger s
    → IsLedger (record s { rows = rows; opened = []; view = view; is_next_serial = serial })
ledger_empty s rows view serial l =
    record { counted = let h = l.counted in omega arith; room = omega arith; written = refl; laid = refl }

pub rolled_back : (s : Ledger) (l : IsLedger s) (numbers : List ℕ)
    (moved : IsPermutation (entry_rows (open_writes s)) numbers) (up : IsNonDecreasing numbers) (new : Ledger)
    (rows : Rows) (restores : List Restore)
    → new ≡ record s { rows = rows; opened = []; view = s.view + 1; is_next_serial = true } → length rows.balances
    ≡ ledger_rows s → table_of_rows rows ≡ rows_committed s
    → restores ≡ restores_of (rows_committed s) (rising_from 0 numbers) → s.committed < 4294967296
    → s.view + 1 < 4294967296
    → RollsBack s new (record { to = s.committed; view = s.view + 1; restores = restores })
rolled_back s l numbers moved up new rows restores is many table are to view = record {
  to = refl;
  view = refl;
  restores = subst (AreRestores s) (sym are) (are_restores s l numbers moved up);
  whole = whole_rollback s l numbers moved up (record { to = s.committed; view = s.view + 1; restores = restores }) to
      view are;
  changed = is ∙ ap (λ (r : Rows). record s { rows = r; opened = []; view = s.view + 1; is_next_serial = true })
      (sym (ap (λ (n : Ledger). n.rows) is));
  as_many = ap (λ (n : Ledger). ledger_rows n) is ∙ many;
  rows = ap (λ (n : Ledger). table_now n) is ∙ table;
}

-- ---- states

-- rows as they are committed, listed
pub is_state : (s : Ledger) (copied left : Rows) (opened : List Opened) (state : List Versioned) → copied ≡ s.rows
    → opened ≡ s.opened → length left.balances ≡ length copied.balances
    → table_of_rows left ≡ values_before (table_of_rows copied) (writes_in opened) → rows_of_state state ≡ left
    → IsStateOf s state
is_state s copied left opened state same all many table are = record {
  many = sym (length-map state (λ r. r.value)) ∙ ap (λ (r : Rows). length r.balances) are ∙ many
      ∙ ap (λ (r : Rows). length r.balances) same;
  rows = ap table_of_rows are ∙ table
      ∙ ap₂ (λ (r : Rows) (os : List Opened). values_before (table_of_rows r) (writes_in os)) same all;
}
