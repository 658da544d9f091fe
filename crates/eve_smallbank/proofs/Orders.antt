-- Public: other crates cite these lemmas. Requests that conflict stand in one order along a chain. Those that don't may
-- be exchanged.
use Rattle.std.proofs.Common.{◌≡◌, ℕ, ◌+◌, ◌≤◌, Bool, true, false, cond, not, ◌&&◌, ◌||◌, ◌==◌, nat_lt, List, [], ◌∷◌}
use Rattle.std.proofs.Common.{◌++◌, refl, sym, subst, ap, ◌∙◌, inl, inr, le_refl, arith}
use mathlib.Core.Path.{fun_ext}
use Rattle.std.proofs.lemmas.Bool.{cases_Bool, cases_eq, and_left, and_right, and_from, and_parts, or_from, or_left}
use Rattle.std.proofs.lemmas.Bool.{or_right, or_parts, ne_eqb, eq-eqb, eqb-true, lt-ltb, le-ltb, false≢true}
use Rattle.std.specs.List.{AllByRecursion, list_any}
use Rattle.eve_smallbank.specs.declared.entry.Entry.{Entry}
use Rattle.eve_smallbank.specs.Access.{Executed, is_write, writes_row}
use Rattle.eve_smallbank.specs.Chain.{Table, left_by, Sees, table_after, table_after_all}
use Rattle.eve_smallbank.specs.Conflict.{entry_precedes, precedes, AgreesWithConflicts, IsReordering}
use Rattle.eve_smallbank.proofs.Members.{In, here, there, all_in, all_from_in, list_any-none, none_of_list_any}
use Rattle.eve_smallbank.proofs.Members.{in_prefix, in_middle, in_before}
use Rattle.eve_smallbank.proofs.Chains.{Follows}
use Rattle.eve_smallbank.specs.declared.versioned.Versioned.{Versioned}

-- ---- versions only rise

-- the least version that an entry of the row may see after this one
abbrev pub floor : Entry → ℕ
floor e = cond (is_write e.kind) (e.version + 1) e.version

-- a row after a write, or left as it was
at_least : (b : Bool) (e : Entry) (v : Versioned) (n : ℕ) → n ≤ e.version + 1 → n ≤ v.version
    → n ≤ (cond b (left_by e) v).version
at_least true e v n h k = h
at_least false e v n h k = k

written_row : (row : ℕ) (e : Entry) → writes_row row e ≡ true → (is_write e.kind ≡ true) × (e.row ≡ row)
written_row row e h = let parts = and_parts (is_write e.kind) (e.row == row) h in (parts.0, eqb-true e.row row parts.1)

-- an entry that saw a table with at least this version leaves at least this version
above_one : (old table : Table) (row n : ℕ) (e : Entry) → Sees old e → n ≤ (old row).version + 1
    → n ≤ (table row).version
    → n ≤ (cond (writes_row row e) (left_by e) (table row)).version
above_one old table row n e sees h k =
    elim (cases_Bool (writes_row row e)) [
      | inl w ↦ at_least (writes_row row e) e (table row) n
          (subst (λ r. n ≤ r + 1) (ap (λ r. (old r).version) (sym (written_row row e w).1) ∙ sym sees.version) h) k
      | inr w ↦ subst (λ b. n ≤ (cond b (left_by e) (table row)).version) (sym w) k
    ]

above_entries : (old table : Table) (row n : ℕ) (es : List Entry) → AllByRecursion (Sees old) es
    → n ≤ (old row).version + 1 → n ≤ (table row).version
    → n ≤ (table_after table es row).version
above_entries old table row n [] sees h k = k
above_entries old table row n (e ∷ es) sees h k =
    above_entries old (λ r. cond (writes_row r e) (left_by e) (table r)) row n es sees.1 h
    (above_one old table row n e sees.0 h k)

floor_if : (b : Bool) (n : ℕ) → cond b (n + 1) n ≤ n + 1
floor_if true n = omega arith
floor_if false n = omega arith

floor_of_read : (b : Bool) (n : ℕ) → b ≡ false → cond b (n + 1) n ≡ n
floor_of_read b n h = ap (λ c. cond c (n + 1) n) h

pub writes_own : (e : Entry) → is_write e.kind ≡ true → writes_row e.row e ≡ true
writes_own e h = ap (λ b. b && (e.row == e.row)) h ∙ eq-eqb e.row e.row refl

-- an entry's own row is at its floor once the entry has taken effect
above_own : (table : Table) (e : Entry) → e.version ≤ (table e.row).version
    → floor e ≤ (cond (writes_row e.row e) (left_by e) (table e.row)).version
above_own table e k =
    elim (cases_Bool (is_write e.kind)) [
      | inl w ↦ subst (λ b. floor e ≤ (cond b (left_by e) (table e.row)).version) (sym (writes_own e w))
          (floor_if (is_write e.kind) e.version)
      | inr w ↦ at_least (writes_row e.row e) e (table e.row) (floor e) (floor_if (is_write e.kind) e.version)
          (subst (λ n. n ≤ (table e.row).version) (sym (floor_of_read (is_write e.kind) e.version w)) k)
    ]

floor_of_seen : (old : Table) (e : Entry) → Sees old e → floor e ≤ (old e.row).version + 1
floor_of_seen old e sees = subst (λ n. floor e ≤ n + 1) sees.version (floor_if (is_write e.kind) e.version)

-- after a request each of its entries' rows is at that entry's floor
above_request : (old table : Table) (e : Entry) (es : List Entry) → AllByRecursion (Sees old) es
    → (old e.row).version ≤ (table e.row).version → In e es
    → floor e ≤ (table_after table es e.row).version
above_request old table e [] sees k i = elim i [ ]
above_request old table e (d ∷ es) sees k here =
    above_entries old (λ r. cond (writes_row r e) (left_by e) (table r)) e.row (floor e) es sees.1
    (floor_of_seen old e sees.0)
    (above_own table e (subst (λ n. n ≤ (table e.row).version) (sym sees.0.version) k))
above_request old table e (d ∷ es) sees k (there i) =
    above_request old (λ r. cond (writes_row r d) (left_by d) (table r)) e es sees.1
    (above_one old table e.row (old e.row).version d sees.0 (omega arith) k) i

-- each later entry of a row sees at least the version that the row had
above_later : (table : Table) (row n : ℕ) (f : Entry) (x : Executed) (xs : List Executed) → Follows table xs
    → n ≤ (table row).version → In x xs → In f x.entries → f.row ≡ row
    → n ≤ f.version
above_later table row n f x [] follows k i j e = elim i [ ]
above_later table row n f x (y ∷ xs) follows k here j e =
    subst (λ v. n ≤ v) (ap (λ r. (table r).version) (sym e) ∙ sym (all_in (Sees table) follows.0 j).version) k
above_later table row n f x (y ∷ xs) follows k (there i) j e =
    above_later (table_after table y.entries) row n f x xs follows.1
    (above_entries table table row n y.entries follows.0 (omega arith) k) i j e

-- x stands later than y: each of its entries sees at least the floor of each of y's of the same row
abbrev pub StandsAbove : Executed → Executed → Type 0
StandsAbove y x = (e f : Entry) → In e y.entries → In f x.entries → f.row ≡ e.row → floor e ≤ f.version

pub stands_above_head : (table : Table) (y x : Executed) (xs : List Executed) → Follows table (y ∷ xs) → In x xs
    → StandsAbove y x
stands_above_head table y x xs follows i e f a b same =
    above_later (table_after table y.entries) e.row (floor e) f x xs follows.1
    (above_request table table e y.entries follows.0 (le_refl _) a) i b same

stands_above : (table : Table) (y x : Executed) (prefix back : List Executed) → Follows table (prefix ++ x ∷ back)
    → In y prefix → StandsAbove y x
stands_above table y x [] back follows i = elim i [ ]
stands_above table y x (z ∷ prefix) back follows here = stands_above_head table y x (prefix ++ x ∷ back) follows
    (in_middle x prefix back)
stands_above table y x (z ∷ prefix) back follows (there i) =
    stands_above (table_after table z.entries) y x prefix back follows.1 i

-- ---- the chain agrees with the conflict order

later_test : (a b : Bool) (m n : ℕ) → cond a (m + 1) m ≤ n → ((b || a) && (nat_lt n m || ((n == m) && (not b && a))))
    ≡ false
later_test true true m n h = or_from (nat_lt n m) ((n == m) && false) (le-ltb n m (omega arith))
    (and_right (n == m) false refl)
later_test true false m n h = or_from (nat_lt n m) ((n == m) && true) (le-ltb n m (omega arith))
    (and_left (n == m) true (ne_eqb n m (λ e. omega arith)))
later_test false true m n h = or_from (nat_lt n m) ((n == m) && false) (le-ltb n m h) (and_right (n == m) false refl)
later_test false false m n h = refl

-- the later entry doesn't precede the earlier one
not_before : (e f : Entry) → (f.row ≡ e.row → floor e ≤ f.version) → entry_precedes f e ≡ false
not_before e f h =
    elim (cases_Bool (f.row == e.row)) [
      | inl same ↦ and_right (f.row == e.row) _
          (later_test (is_write e.kind) (is_write f.kind) e.version f.version (h (eqb-true f.row e.row same)))
      | inr other ↦ and_left (f.row == e.row) _ other
    ]

earlier_test : (a b : Bool) (m n : ℕ) → cond a (m + 1) m ≤ n → (a || b) ≡ true
    → ((a || b) && (nat_lt m n || ((m == n) && (not a && b)))) ≡ true
earlier_test true b m n h w = or_left (nat_lt m n) ((m == n) && false) (lt-ltb m n (omega arith))
earlier_test false true m n h w =
    elim (cases_eq m n) [
      | inl e ↦ or_right (nat_lt m n) ((m == n) && true) (and_from (m == n) true (eq-eqb m n e) refl)
      | inr e ↦ or_left (nat_lt m n) ((m == n) && true) (lt-ltb m n (omega arith))
    ]
earlier_test false false m n h w = absurd (false≢true w)

-- the earlier entry precedes the later one, where one of them writes
is_before : (e f : Entry) → floor e ≤ f.version → f.row ≡ e.row → (is_write e.kind || is_write f.kind) ≡ true
    → entry_precedes e f ≡ true
is_before e f h same w =
    and_from (e.row == f.row) _ (eq-eqb e.row f.row (sym same))
    (earlier_test (is_write e.kind) (is_write f.kind) e.version f.version h w)

pub later_precedes_not : (y x : Executed) → StandsAbove y x → precedes x y ≡ false
later_precedes_not y x above =
    list_any-none (λ f. list_any (entry_precedes f) y.entries) x.entries
    (λ f j. list_any-none (entry_precedes f) y.entries (λ e i. not_before e f (above e f i j)))

pub chain_agrees : (table : Table) (xs : List Executed) → Follows table xs → AgreesWithConflicts xs
chain_agrees table [] follows = tt
chain_agrees table (y ∷ xs) follows = (
  all_from_in (λ x. precedes x y ≡ false) xs (λ x i. later_precedes_not y x (stands_above_head table y x xs follows i)),
  chain_agrees (table_after table y.entries) xs follows.1,
)

-- ---- requests that don't conflict

-- no row of both is written by one of them
abbrev pub AreApart : Executed → Executed → Type 0
AreApart y x = (e f : Entry) → In e y.entries → In f x.entries → f.row ≡ e.row → (is_write e.kind || is_write f.kind)
    ≡ false

apart : (y x : Executed) → StandsAbove y x → precedes y x ≡ false → AreApart y x
apart y x above none e f i j same =
    elim (cases_Bool (is_write e.kind || is_write f.kind)) as (λ _. (is_write e.kind || is_write f.kind) ≡ false) [
      | inl w ↦ absurd (false≢true (sym (none_of_list_any (entry_precedes e) x.entries
          (none_of_list_any (λ d. list_any (entry_precedes d) x.entries) y.entries none i) j)
          ∙ is_before e f (above e f i j same) same w))
      | inr w ↦ w
    ]

-- what a row has is left alone by entries that don't write it
pub untouched : (table : Table) (row : ℕ) (es : List Entry) → ((e : Entry) → In e es → writes_row row e ≡ false)
    → table_after table es row ≡ table row
untouched table row [] h = refl
untouched table row (e ∷ es) h =
    untouched (λ r. cond (writes_row r e) (left_by e) (table r)) row es (λ d i. h d (there i))
    ∙ ap (λ b. cond b (left_by e) (table row)) (h e here)

pub unwritten : (table : Table) (es : List Entry) (row : ℕ) → list_any (writes_row row) es ≡ false
    → table_after table es row ≡ table row
unwritten table es row none = untouched table row es (λ e i. none_of_list_any (writes_row row) es none i)

-- what a row has afterwards depends on that row alone
pub same_row : (table other : Table) (row : ℕ) (es : List Entry) → table row ≡ other row → table_after table es row
    ≡ table_after other es row
same_row table other row [] h = h
same_row table other row (e ∷ es) h =
    same_row (λ r. cond (writes_row r e) (left_by e) (table r)) (λ r. cond (writes_row r e) (left_by e) (other r)) row
    es
    (ap (λ v. cond (writes_row row e) (left_by e) v) h)

no_write : (row : ℕ) (e : Entry) → (e.row ≡ row → is_write e.kind ≡ false) → writes_row row e ≡ false
no_write row e h =
    elim (cases_Bool (e.row == row)) [
      | inl same ↦ and_left (is_write e.kind) (e.row == row) (h (eqb-true e.row row same))
      | inr other ↦ and_right (is_write e.kind) (e.row == row) other
    ]

-- y writes no row that x touches, and x none that y touches
left_alone : (y x : Executed) → AreApart y x → (f : Entry) → In f x.entries → (e : Entry) → In e y.entries
    → writes_row f.row e ≡ false
left_alone y x apart f j e i =
    no_write f.row e (λ same. (or_parts (is_write e.kind) (is_write f.kind) (apart e f i j (sym same))).0)

left_alone_too : (y x : Executed) → AreApart y x → (e : Entry) → In e y.entries → (f : Entry) → In f x.entries
    → writes_row e.row f ≡ false
left_alone_too y x apart e i f j =
    no_write e.row f (λ same. (or_parts (is_write e.kind) (is_write f.kind) (apart e f i j same)).1)

-- both orders leave the same in a row that the first doesn't write
exchange_row : (table : Table) (row : ℕ) (es fs : List Entry) → ((e : Entry) → In e es → writes_row row e ≡ false)
    → table_after (table_after table es) fs row ≡ table_after (table_after table fs) es row
exchange_row table row es fs h = same_row (table_after table es) table row fs (untouched table row es h)
    ∙ sym (untouched (table_after table fs) row es h)

some_write : (row : ℕ) (es : List Entry) → list_any (writes_row row) es ≡ true → (e : Entry) × In e es
    × (writes_row row e ≡ true)
some_write row [] h = absurd (false≢true h)
some_write row (e ∷ es) h =
    elim (cases_Bool (writes_row row e)) [
      | inl w ↦ (e, here, w)
      | inr w ↦
          let rest = some_write row es (ap (λ b. b || list_any (writes_row row) es) (sym w) ∙ h) in
          (rest.0, there rest.1, rest.2)
    ]

exchange_tables : (table : Table) (y x : Executed) → AreApart y x
    → table_after (table_after table y.entries) x.entries ≡ table_after (table_after table x.entries) y.entries
exchange_tables table y x apart = fun_ext (λ row.
    elim (cases_Bool (list_any (writes_row row) y.entries)) [
      | inl w ↦
          let e = some_write row y.entries w in
          sym (exchange_row table row x.entries y.entries
          (λ f j. subst (λ r. writes_row r f ≡ false) (written_row row e.0 e.2).1
          (left_alone_too y x apart e.0 e.1 f j)))
      | inr w ↦ exchange_row table row y.entries x.entries (λ e i. none_of_list_any (writes_row row) y.entries w i)
    ])

sees_moved : (table other : Table) (e : Entry) → table e.row ≡ other e.row → Sees table e → Sees other e
sees_moved table other e h sees = record {
  version = sees.version ∙ ap (λ v. v.version) h;
  value = sees.value
      ∙ ap (λ v. v.value) h;
}

-- A request may be moved before others that it is apart from: all still see what they saw, and the table after all is
-- the same.
moved_prefix : (table : Table) (x : Executed) (prefix back : List Executed)
    → ((y : Executed) → In y prefix → AreApart y x)
    → Follows table (prefix ++ x ∷ back)
    → Follows table (x ∷ prefix ++ back)
    × (table_after_all table (prefix ++ x ∷ back) ≡ table_after_all table (x ∷ prefix ++ back))
moved_prefix table x [] back apart follows = (follows, refl)
moved_prefix table x (y ∷ prefix) back apart follows =
    let rest = moved_prefix (table_after table y.entries) x prefix back (λ z i. apart z (there i)) follows.1 in
    let xy = apart y here in
    let tables = exchange_tables table y x xy in (
      (
        all_from_in (Sees table) x.entries (λ f j. sees_moved (table_after table y.entries) table f
            (untouched table f.row y.entries (left_alone y x xy f j))
            (all_in (Sees (table_after table y.entries)) rest.0.0 j)),
        (
          all_from_in (Sees (table_after table x.entries)) y.entries
              (λ e i. sees_moved table (table_after table x.entries) e
              (sym (untouched table e.row x.entries (left_alone_too y x xy e i))) (all_in (Sees table) follows.0 i)),
          subst (λ t. Follows t (prefix ++ back)) tables rest.0.1,
        ),
      ),
      rest.1 ∙ ap (λ t. table_after_all t (prefix ++ back)) tables,
    )

-- In every order that agrees with the conflict order all see what they saw, and the table after all is the same.
pub reordered : (table : Table) (ys xs : List Executed) → IsReordering ys xs → AgreesWithConflicts ys → Follows table xs
    → Follows table ys × (table_after_all table xs ≡ table_after_all table ys)
reordered table [] xs order agrees follows = (tt, ap (table_after_all table) order)
reordered table (x ∷ ys) xs order agrees follows =
    let prefix : List Executed = order.0 in
    let back : List Executed = order.1 in
    let here_follows = subst (Follows table) order.2 follows in
    let first = moved_prefix table x prefix back
    (λ y i. apart y x (stands_above table y x prefix back here_follows i)
    (all_in (λ z. precedes z x ≡ false) agrees.0 (in_before ys (prefix ++ back) order.3 (in_prefix back i))))
    here_follows
    in
    let rest = reordered (table_after table x.entries) ys (prefix ++ back) order.3 agrees.1 first.0.1 in
    ((first.0.0, rest.0), ap (table_after_all table) order.2 ∙ first.1 ∙ rest.1)
