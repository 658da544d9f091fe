-- Public: other crates cite these lemmas. Chains as steps of one table, and what a run of SmallBank gives along a
-- chain.
use Rattle.std.proofs.Common.{◌≡◌, ℕ, ℤ, Bool, true, false, cond, List, [], ◌∷◌, ◌++◌, map, refl, sym, subst, ap, ◌∙◌}
use mathlib.Core.Path.{fun_ext}
use Rattle.std.specs.Prelude.{⊤}
use Rattle.std.specs.List.{AllByRecursion}
use Rattle.eve_smallbank.specs.declared.entry.Entry.{Entry}
use Rattle.eve_smallbank.specs.declared.request.Reply.{Reply}
use Rattle.eve_smallbank.specs.SmallBank.{Bank, Request, does, run}
use Rattle.eve_smallbank.specs.Access.{Executed, writes_row, Fits, bank_of, values_after}
use Rattle.eve_smallbank.specs.Chain.{Table, left_by, visible_at, before_next, before_rest, Sees, IsChained}
use Rattle.eve_smallbank.specs.Chain.{IsRowChained, table_after, table_after_all, values_of}
use Rattle.eve_smallbank.specs.declared.versioned.Versioned.{Versioned}

-- each entry sees the table as the requests before leave it
abbrev pub Follows : Table → List Executed → Type 0
Follows table [] = ⊤
Follows table (x ∷ xs) = AllByRecursion (Sees table) x.entries × Follows (table_after table x.entries) xs

-- what is visible after more entries is a table after their writes
pub visible_at-before_next : (base : Table) (before es : List Entry) → visible_at base (before_next before es)
    ≡ table_after (visible_at base before) es
visible_at-before_next base before [] = refl
visible_at-before_next base before (e ∷ es) = visible_at-before_next base (e ∷ before) es

pub visible_at-before_rest : (base : Table) (before : List Entry) (xs : List Executed)
    → visible_at base (before_rest before xs) ≡ table_after_all (visible_at base before) xs
visible_at-before_rest base before [] = refl
visible_at-before_rest base before (x ∷ xs) =
    visible_at-before_rest base (before_next before x.entries) xs
    ∙ ap (λ table. table_after_all table xs) (visible_at-before_next base before x.entries)

pub follows_chain : (base : Table) (before : List Entry) (xs : List Executed) → IsChained base before xs
    → Follows (visible_at base before) xs
follows_chain base before [] chained = tt
follows_chain base before (x ∷ xs) chained = (
  chained.0,
  subst (λ table. Follows table xs) (visible_at-before_next base before x.entries)
      (follows_chain base (before_next before x.entries) xs chained.1),
)

pub chain_follows : (base : Table) (before : List Entry) (xs : List Executed) → Follows (visible_at base before) xs
    → IsChained base before xs
chain_follows base before [] follows = tt
chain_follows base before (x ∷ xs) follows = (
  follows.0,
  chain_follows base (before_next before x.entries) xs
      (subst (λ table. Follows table xs) (sym (visible_at-before_next base before x.entries)) follows.1),
)

pub follows-push : (table : Table) (xs : List Executed) (x : Executed) → Follows table xs
    → AllByRecursion (Sees (table_after_all table xs)) x.entries → Follows table (xs ++ x ∷ [])
follows-push table [] x follows sees = (sees, tt)
follows-push table (y ∷ xs) x follows sees = (follows.0, follows-push (table_after table y.entries) xs x follows.1 sees)

pub table_after-append : (table : Table) (es fs : List Entry) → table_after table (es ++ fs)
    ≡ table_after (table_after table es) fs
table_after-append table [] fs = refl
table_after-append table (e ∷ es) fs = table_after-append (λ row. cond (writes_row row e) (left_by e) (table row)) es fs

pub table_after_all-push : (table : Table) (xs : List Executed) (x : Executed) → table_after_all table (xs ++ x ∷ [])
    ≡ table_after (table_after_all table xs) x.entries
table_after_all-push table [] x = refl
table_after_all-push table (y ∷ xs) x = table_after_all-push (table_after table y.entries) xs x

each_row : {A : Type 0} (row : A → ℕ) (P : A → Type 0) (es : List A)
    → ((n : ℕ) → AllByRecursion (λ e. row e ≡ n → P e) es) → AllByRecursion P es
each_row row P [] h = tt
each_row row P (e ∷ es) h = ((h (row e)).0 refl, each_row row P es (λ n. (h n).1))

-- all are chained where each row is chained by itself
pub chained_by_rows : (base : Table) (before : List Entry) (xs : List Executed)
    → ((row : ℕ) → IsRowChained base row before xs) → IsChained base before xs
chained_by_rows base before [] rows = tt
chained_by_rows base before (x ∷ xs) rows = (
  each_row (λ e. e.row) (Sees (visible_at base before)) x.entries (λ n. (rows n).0),
  chained_by_rows base (before_next before x.entries) xs (λ n. (rows n).1),
)

-- each row is chained by itself where all are
pub rows_by_chain : (base : Table) (before : List Entry) (xs : List Executed)
    → IsChained base before xs → (row : ℕ) → IsRowChained base row before xs
rows_by_chain base before [] chained row = tt
rows_by_chain base before (x ∷ xs) chained row = (
  of_row x.entries chained.0,
  rows_by_chain base (before_next before x.entries) xs chained.1 row,
)
  where
    of_row : (es : List Entry) → AllByRecursion (Sees (visible_at base before)) es
        → AllByRecursion (λ e. e.row ≡ row → Sees (visible_at base before) e) es
    of_row [] sees = tt
    of_row (e ∷ es) sees = (λ _. sees.0, of_row es sees.1)

-- ---- one request after another

value_if : (b : Bool) (e : Entry) (v : Versioned) → (cond b (left_by e) v).value ≡ cond b e.after v.value
value_if true e v = refl
value_if false e v = refl

-- writes on values are those on a table
pub values_of-table_after : (table : Table) (es : List Entry) → values_of (table_after table es)
    ≡ values_after (values_of table) es
values_of-table_after table [] = refl
values_of-table_after table (e ∷ es) =
    values_of-table_after (λ row. cond (writes_row row e) (left_by e) (table row)) es
    ∙ ap (λ (values : ℕ → ℤ). values_after values es) (fun_ext (λ row. value_if (writes_row row e) e (table row)))

pub seen_values : (table : Table) (es : List Entry) → AllByRecursion (Sees table) es
    → AllByRecursion (λ (e : Entry). e.seen ≡ values_of table e.row) es
seen_values table [] sees = tt
seen_values table (e ∷ es) sees = (sees.0.value, seen_values table es sees.1)

run_on : (bank next last : Bank) (request : Request) (requests : List Request) (reply : Reply) (replies : List Reply)
    → does bank request ≡ (next, reply) → run next requests ≡ (last, replies) → run bank (request ∷ requests)
    ≡ (last, reply ∷ replies)
run_on bank next last request requests reply replies e f =
    ap (λ (d : Bank × Reply). ((run d.0 requests).0, d.1 ∷ (run d.0 requests).1)) e
    ∙ ap (λ (d : Bank × List Reply). (d.0, reply ∷ d.1)) f

-- Requests that fit one by one and follow a table are run by SmallBank from the table's bank, with their replies.
pub run_along : (names : List (List ℕ)) (table : Table) (xs : List Executed) → AllByRecursion (Fits names) xs
    → Follows table xs
    → run (bank_of names (values_of table)) (map (λ x. x.request) xs)
    ≡ (bank_of names (values_of (table_after_all table xs)), map (λ x. x.reply) xs)
run_along names table [] fits follows = refl
run_along names table (x ∷ xs) fits follows =
    run_on (bank_of names (values_of table)) (bank_of names (values_of (table_after table x.entries)))
    (bank_of names (values_of (table_after_all table (x ∷ xs)))) x.request (map (λ x. x.request) xs) x.reply
    (map (λ x. x.reply) xs)
    (fits.0.effect (values_of table) (seen_values table x.entries follows.0)
    ∙ ap (λ (values : ℕ → ℤ). (bank_of names values, x.reply)) (sym (values_of-table_after table x.entries)))
    (run_along names (table_after table x.entries) xs fits.1 follows.1)
