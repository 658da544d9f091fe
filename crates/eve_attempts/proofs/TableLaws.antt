-- Public: other crates cite these lemmas. What a write leaves in the rows, what going back over writes gives, and what
-- each entry along an attempt sees.
use Rattle.std.proofs.Common.{◌≡◌, ℕ, ℤ, pos, zero, suc, ◌+◌, ◌<◌, ◌==◌, Bool, true, false, cond, ◌||◌, ◌&&◌}
use Rattle.std.proofs.Common.{IsTrue, List, [], ◌∷◌, ◌++◌, map, filter, length, get_or, set, refl, sym, subst, ap, ap₂}
use Rattle.std.proofs.Common.{◌∙◌, inl, inr, append_assoc, arith}
use mathlib.Core.Path.{fun_ext}
use Rattle.std.specs.List.{AllByRecursion, flat_map, list_any, list_all}
use Rattle.std.proofs.lemmas.List.Folds.{list_all-append}
use Rattle.std.proofs.lemmas.Bool.{cases_Bool, cases_eq, and_parts, eq-eqb, ne_eqb, eqb-true}
use Rattle.std.proofs.lemmas.Bool.{cond-true, cond-false}
use Rattle.std.proofs.lemmas.List.{get_or-set_other}
use Rattle.std.proofs.lemmas.Grind.{get_or-set_at}
use Rattle.eve_smallbank.specs.declared.entry.Entry.{Entry}
use Rattle.eve_smallbank.specs.Access.{Executed, is_write, writes_row}
use Rattle.eve_smallbank.specs.Chain.{Table, left_by, Sees, IsChained, table_after, table_after_all}
use Rattle.eve_smallbank.proofs.Chains.{Follows, chain_follows, follows_chain, table_after-append}
use Rattle.eve_smallbank.proofs.Orders.{unwritten}
use Rattle.eve_smallbank.specs.declared.versioned.Versioned.{Versioned}
use Rattle.eve_grammar.specs.Trace.{Batch}
use Rattle.eve_grammar.specs.Limits.{is_entry}
use Rattle.eve_grammar.proofs.EntryLimits.{row_there}
use Rattle.eve_stamps.specs.Applied.{Applied}
use Rattle.eve_attempts.specs.Ledgers.{Rows, Opened, table_of_rows, values_before, writes_in, is_write_in, AreLaid}
use Rattle.eve_attempts.specs.inner.KeptRows.{KeptRows}
use Rattle.eve_attempts.specs.ClosedAttempts.{executed, entries_in_order, writes_along}
use Rattle.eve_attempts.specs.inner.RecordKeys.{AreSeenAlong, table_after_records}

-- ---- rows as tables

same_list : {A : Type 0} (xs ys : List A) (d : A) → length xs ≡ length ys → ((i : ℕ) → get_or xs i d ≡ get_or ys i d)
    → xs ≡ ys
same_list [] [] d many same = refl
same_list [] (y ∷ ys) d many same = absurd (omega arith)
same_list (x ∷ xs) [] d many same = absurd (omega arith)
same_list (x ∷ xs) (y ∷ ys) d many same =
    ap₂ (λ (z : _) (zs : List _). z ∷ zs) (same 0) (same_list xs ys d (omega arith) (λ i. same (suc i)))

pub same_rows : (a b : Rows) → length a.versions ≡ length b.versions → length a.balances ≡ length b.balances
    → table_of_rows a ≡ table_of_rows b → a ≡ b
same_rows a b versions balances same =
    ap₂ (λ (v : List ℕ) (m : List ℤ). record { versions = v; balances = m })
    (same_list a.versions b.versions 0 versions (λ i. ap (λ (t : Table). (t i).version) same))
    (same_list a.balances b.balances (pos 0) balances (λ i. ap (λ (t : Table). (t i).value) same))

-- the same rows of the same version
pub same_kept : (a b : KeptRows) → a.version ≡ b.version → a.rows ≡ b.rows → a ≡ b
same_kept a b version rows = ap₂ (λ (v : ℕ) (r : Rows). record { version = v; rows = r }) version rows

get_or-set : {A : Type 0} (xs : List A) (i : ℕ) (x d : A) → i < length xs → (k : ℕ) → get_or (set xs i x) k d
    ≡ cond (i == k) x (get_or xs k d)
get_or-set xs i x d within k = elim (cases_eq k i) [
  | inl same ↦ get_or-set_at xs i k x d same within ∙ sym (cond-true (i == k) x (get_or xs k d) (eq-eqb i k (sym same)))
  | inr other ↦ get_or-set_other xs i k x d other
      ∙ sym (cond-false (i == k) x (get_or xs k d) (ne_eqb i k (λ e. other (sym e))))
]

-- a row of both lists set
abbrev set_both : Rows → ℕ → ℕ → ℤ → Rows
set_both rows row version value =
    record { versions = set rows.versions row version; balances = set rows.balances row value }

table_of_rows-set : (rows : Rows) (at version : ℕ) (value : ℤ) (row : ℕ) → at < length rows.versions
    → at < length rows.balances
    → table_of_rows (set_both rows at version value) row ≡ cond (at == row)
    (record { version = version; value = value })
    (table_of_rows rows row)
table_of_rows-set rows at version value row one two =
    ap₂ (λ (v : ℕ) (m : ℤ). record { version = v; value = m }) (get_or-set rows.versions at version 0 one row)
    (get_or-set rows.balances at value (pos 0) two row)
    ∙ exchange (at == row)
  where
    exchange : (b : Bool) → record {
      version = cond b version (get_or rows.versions row 0);
      value = cond b value (get_or rows.balances row (pos 0));
    }
        ≡ cond b (record { version = version; value = value }) (table_of_rows rows row)
    exchange true = refl
    exchange false = refl

pub write_left : (rows : Rows) (e : Entry) → e.row < length rows.versions → e.row < length rows.balances
    → is_write e.kind ≡ true
    → table_of_rows (set_both rows e.row (e.version + 1) e.after) ≡ table_after (table_of_rows rows) (e ∷ [])
write_left rows e one two written =
    fun_ext (λ row. table_of_rows-set rows e.row (e.version + 1) e.after row one two
    ∙ ap (λ b. cond (b && (e.row == row)) (left_by e) (table_of_rows rows row)) (sym written))

pub seen_left : (rows : Rows) (e : Entry) → e.row < length rows.versions → e.row < length rows.balances
    → is_write e.kind ≡ true
    → table_of_rows (set_both rows e.row e.version e.seen) ≡ values_before (table_of_rows rows) (e ∷ [])
seen_left rows e one two written =
    fun_ext (λ row. table_of_rows-set rows e.row e.version e.seen row one two
    ∙ ap (λ b. cond (b && (e.row == row)) (record { version = e.version; value = e.seen }) (table_of_rows rows row))
    (sym written))

pub write_there : (rows : ℕ) (e : Entry) → IsTrue (is_write_in rows e) → (is_write e.kind ≡ true) × (e.row < rows)
write_there rows e right =
    let parts = and_parts (is_write e.kind) (is_entry rows e) right in
    (parts.0, row_there rows e parts.1)

-- the rows as they are held
abbrev pub held : List ℕ → List ℤ → Rows
held versions balances = record { versions = versions; balances = balances }

module _ (now : Rows) (versions : List ℕ) (balances after : List ℤ) (e : Entry) (n : ℕ)
    (is : held versions balances ≡ now) (at : n ≡ e.row) (many : length versions ≡ length balances)
    (right : IsTrue (is_write_in (length now.balances) e)) where
  there : e.row < length balances
  there = let h = (write_there (length now.balances) e right).1 in let k : length balances ≡ length now.balances =
      ap (λ (r : Rows). length r.balances) is in omega arith

  pub write_held : after ≡ set balances e.row e.after → table_of_rows (held (set versions n (e.version + 1)) after)
      ≡ table_after (table_of_rows now) (e ∷ [])
  write_held set_is =
      let h = there in
      ap₂ (λ (m : ℕ) (b : List ℤ). table_of_rows (held (set versions m (e.version + 1)) b)) at set_is
      ∙ write_left (held versions balances) e (omega arith) h (write_there (length now.balances) e right).0
      ∙ ap (λ (r : Rows). table_after (table_of_rows r) (e ∷ [])) is

  pub seen_held : after ≡ set balances e.row e.seen → table_of_rows (held (set versions n e.version) after)
      ≡ values_before (table_of_rows now) (e ∷ [])
  seen_held set_is =
      let h = there in
      ap₂ (λ (m : ℕ) (b : List ℤ). table_of_rows (held (set versions m e.version) b)) at set_is
      ∙ seen_left (held versions balances) e (omega arith) h (write_there (length now.balances) e right).0
      ∙ ap (λ (r : Rows). values_before (table_of_rows r) (e ∷ [])) is

-- ---- going back

pub values_before-append : (table : Table) (xs ys : List Entry) → values_before table (xs ++ ys) ≡ values_before
    (values_before table ys) xs
values_before-append table [] ys = refl
values_before-append table (e ∷ xs) ys =
    ap (λ (t : Table). λ row. cond (writes_row row e) (record { version = e.version; value = e.seen }) (t row))
    (values_before-append table xs ys)

-- what an entry saw
abbrev saw : Entry → Versioned
saw e = record { version = e.version; value = e.seen }

undone_at : (table : Table) (v : Versioned) (row : ℕ) (es : List Entry)
    → AllByRecursion (λ e. writes_row row e ≡ true → saw e ≡ v) es
    → values_before table es row ≡ cond (list_any (writes_row row) es) v (table row)
undone_at table v row [] all = refl
undone_at table v row (e ∷ es) all = by (writes_row row e) all.0 (undone_at table v row es all.1)
  where
    by : (b : Bool) → (b ≡ true → saw e ≡ v) → values_before table es row ≡ cond (list_any (writes_row row) es) v
        (table row)
        → cond b (saw e) (values_before table es row) ≡ cond (b || list_any (writes_row row) es) v (table row)
    by true is rest = is refl
    by false is rest = rest

saw_base : (base : Table) (row : ℕ) (es : List Entry) → AllByRecursion (Sees base) es
    → AllByRecursion (λ e. writes_row row e ≡ true → saw e ≡ base row) es
saw_base base row [] all = tt
saw_base base row (e ∷ es) all = (here, saw_base base row es all.1)
  where
    here : writes_row row e ≡ true → saw e ≡ base row
    here is =
        let same : e.row ≡ row = eqb-true e.row row (and_parts (is_write e.kind) (e.row == row) is).1 in
        ap₂ (λ (v : ℕ) (m : ℤ). record { version = v; value = m }) all.0.version all.0.value ∙ ap base same

-- entries that all saw one table, undone one after the other, the last first, give it again
pub undone_seen : (base : Table) (es : List Entry) → AllByRecursion (Sees base) es
    → values_before (table_after base es) es
    ≡ base
undone_seen base es all = fun_ext (λ row. undone_at (table_after base es) (base row) row es (saw_base base row es all)
    ∙ by row)
  where
    by : (row : ℕ) → cond (list_any (writes_row row) es) (base row) (table_after base es row) ≡ base row
    by row = elim (cases_Bool (list_any (writes_row row) es)) [
      | inl some ↦ cond-true (list_any (writes_row row) es) (base row) (table_after base es row) some
      | inr none ↦ cond-false (list_any (writes_row row) es) (base row) (table_after base es row) none
          ∙ unwritten base es row none
    ]

-- reads leave nothing, and are not undone
abbrev pub writes_among : List Entry → List Entry
writes_among es = filter (λ e. is_write e.kind) es

pub values_before-writes : (table : Table) (es : List Entry) → values_before table (writes_among es)
    ≡ values_before table es
values_before-writes table [] = refl
values_before-writes table (e ∷ es) = by (is_write e.kind) refl (values_before-writes table es)
  where
    by : (b : Bool) → is_write e.kind ≡ b → values_before table (writes_among es) ≡ values_before table es
        → values_before table (cond b (e ∷ writes_among es) (writes_among es)) ≡ values_before table (e ∷ es)
    by true is rest = fun_ext (λ row. ap (λ (t : Table). cond (writes_row row e) (saw e) (t row)) rest)
    by false is rest = rest ∙ fun_ext
        (λ row. ap (λ b. cond (b && (e.row == row)) (saw e) (values_before table es row)) (sym is))

pub table_after-writes : (table : Table) (es : List Entry) → table_after table (writes_among es) ≡ table_after table es
table_after-writes table [] = refl
table_after-writes table (e ∷ es) = by (is_write e.kind) refl (λ t. table_after-writes t es)
  where
    by : (b : Bool) → is_write e.kind ≡ b → ((t : Table) → table_after t (writes_among es) ≡ table_after t es)
        → table_after table (cond b (e ∷ writes_among es) (writes_among es)) ≡ table_after table (e ∷ es)
    by true is rest = rest (λ row. cond (writes_row row e) (left_by e) (table row))
    by false is rest =
        rest table
        ∙ ap (λ (t : Table). table_after t es)
        (fun_ext (λ row. ap (λ b. cond (b && (e.row == row)) (left_by e) (table row)) (sym is)))

-- one more request that sees what there is
pub undone_further : (base now : Table) (written es : List Entry) → values_before now written ≡ base
    → AllByRecursion (Sees now) es
    → values_before (table_after now es) (written ++ writes_among es) ≡ base
undone_further base now written es back all =
    values_before-append (table_after now es) written (writes_among es)
    ∙ ap (λ (t : Table). values_before t written) (values_before-writes (table_after now es) es
    ∙ undone_seen now es all) ∙ back

-- all that executed requests noted, undone after their writes, gives the table that they found
pub chain_undone : (table : Table) (xs : List Executed) → Follows table xs
    → values_before (table_after_all table xs) (flat_map (λ x. x.entries) xs) ≡ table
chain_undone table [] follows = refl
chain_undone table (x ∷ xs) follows =
    values_before-append (table_after_all (table_after table x.entries) xs) x.entries (flat_map (λ y. y.entries) xs)
    ∙ ap (λ (t : Table). values_before t x.entries) (chain_undone (table_after table x.entries) xs follows.1)
    ∙ undone_seen table x.entries follows.0

pub chained_undone : (table : Table) (xs : List Executed) → IsChained table [] xs
    → values_before (table_after_all table xs) (flat_map (λ x. x.entries) xs) ≡ table
chained_undone table xs chained = chain_undone table xs (follows_chain table [] xs chained)

-- ---- along an attempt

pub table_after_records-entries : (table : Table) (rs : List Applied) → table_after_records table rs
    ≡ table_after table (entries_in_order rs)
table_after_records-entries table [] = refl
table_after_records-entries table (r ∷ rs) = table_after_records-entries (table_after table r.entries) rs
    ∙ sym (table_after-append table r.entries (entries_in_order rs))

pub table_after_records-writes : (table : Table) (rs : List Applied) → table_after_records table rs
    ≡ table_after table (writes_along rs)
table_after_records-writes table rs = table_after_records-entries table rs
    ∙ sym (table_after-writes table (entries_in_order rs))

pub table_after_records-executed : (b : Batch) (table : Table) (rs : List Applied) → table_after_records table rs
    ≡ table_after_all table (map (executed b) rs)
table_after_records-executed b table [] = refl
table_after_records-executed b table (r ∷ rs) = table_after_records-executed b (table_after table r.entries) rs

pub seen_follows : (b : Batch) (table : Table) (rs : List Applied) → AreSeenAlong table rs
    → Follows table (map (executed b) rs)
seen_follows b table [] seen = tt
seen_follows b table (r ∷ rs) seen = (seen.0, seen_follows b (table_after table r.entries) rs seen.1)

pub follows_seen : (b : Batch) (table : Table) (rs : List Applied) → Follows table (map (executed b) rs)
    → AreSeenAlong table rs
follows_seen b table [] seen = tt
follows_seen b table (r ∷ rs) seen = (seen.0, follows_seen b (table_after table r.entries) rs seen.1)

pub seen_chained : (b : Batch) (table : Table) (rs : List Applied) → AreSeenAlong table rs
    → IsChained table [] (map (executed b) rs)
seen_chained b table rs seen = chain_follows table [] (map (executed b) rs) (seen_follows b table rs seen)

pub chained_seen : (b : Batch) (table : Table) (rs : List Applied) → IsChained table [] (map (executed b) rs)
    → AreSeenAlong table rs
chained_seen b table rs chained = follows_seen b table rs (follows_chain table [] (map (executed b) rs) chained)

-- ---- open attempts

pub writes_in-append : (xs ys : List Opened) → writes_in (xs ++ ys) ≡ writes_in xs ++ writes_in ys
writes_in-append [] ys = refl
writes_in-append (o ∷ xs) ys = ap (λ (es : List Entry). o.written ++ es) (writes_in-append xs ys)
    ∙ sym (append_assoc o.written (writes_in xs) (writes_in ys))

-- what the open attempts wrote, undone, is what stood before them
pub laid_undone : (base : Table) (opened : List Opened) (now : Table) → AreLaid base opened now
    → values_before now (writes_in opened) ≡ base
laid_undone base [] now laid = sym laid
laid_undone base (o ∷ opened) now laid =
    values_before-append now o.written (writes_in opened)
    ∙ ap (λ (t : Table). values_before t o.written) (laid_undone (table_after base o.written) opened now laid.1)
    ∙ laid.0

pub laid_further : (base : Table) (opened : List Opened) (now next : Table) (o : Opened) → AreLaid base opened now
    → values_before next o.written ≡ now → next ≡ table_after now o.written
    → AreLaid base (opened ++ o ∷ []) next
laid_further base [] now next o laid back is = (
  subst (λ (t : Table). values_before (table_after t o.written) o.written ≡ t) (sym laid)
      (ap (λ (t : Table). values_before t o.written) (sym is) ∙ back),
  ap (λ (t : Table). table_after t o.written) laid
      ∙ sym is,
)
laid_further base (p ∷ opened) now next o laid back is =
    (laid.0, laid_further (table_after base p.written) opened now next o laid.1 back is)

-- the writes of one of the open attempts are among all
pub writes_of_one : (p : Entry → Bool) (opened : List Opened) (i : ℕ) (o : Opened) → list_all p (writes_in opened)
    ≡ true → i < length opened → o ≡ get_or opened i o → list_all p o.written ≡ true
writes_of_one p [] i o all within is = absurd (omega arith)
writes_of_one p (q ∷ opened) zero o all within is =
    ap (λ (r : Opened). list_all p r.written) is
    ∙ (and_parts (list_all p q.written) (list_all p (writes_in opened))
    (sym (list_all-append p q.written (writes_in opened)) ∙ all)).0
writes_of_one p (q ∷ opened) (suc i) o all within is =
    writes_of_one p opened i o
    (and_parts (list_all p q.written) (list_all p (writes_in opened))
    (sym (list_all-append p q.written (writes_in opened)) ∙ all)).1 (omega arith) is

-- a read leaves nothing
pub read_left : (table : Table) (e : Entry) → is_write e.kind ≡ false → table ≡ table_after table (e ∷ [])
read_left table e read = fun_ext (λ row. ap (λ b. cond (b && (e.row == row)) (left_by e) (table row)) (sym read))
