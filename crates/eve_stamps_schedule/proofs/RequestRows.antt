-- The rows that a request reaches, and what it makes of them.
use Rattle.std.proofs.Common.{◌≡◌, ℕ, pos, ◌+◌, ◌*◌, ◌<◌, Bool, true, false, ◌&&◌, ◌==◌, cond, List, [], ◌∷◌, length}
use Rattle.std.proofs.Common.{Option, Some, None, is_some, subst, ap, ◌∙◌, arith}
use Rattle.std.specs.List.{AllByRecursion}
use Rattle.std.proofs.lemmas.Bool.{and_parts, false≢true}
use Rattle.std.specs.Prelude.{unwrap_or, option_map}
use Rattle.eve_accounts.specs.Names.{customer_named}
use Rattle.eve_smallbank.specs.declared.entry.Entry.{Entry}
use Rattle.eve_smallbank.specs.declared.entry.Kind.{Kind}
use Rattle.eve_smallbank.specs.declared.entry.Kind.TheVariants.{Write}
use Rattle.eve_smallbank.specs.declared.rows.Touched.TheVariants as touched
use Rattle.eve_smallbank.specs.SmallBank.{Request, Balance, DepositChecking, TransactSaving, Amalgamate, WriteCheck}
use Rattle.eve_smallbank.specs.SmallBank.{does}
use Rattle.eve_smallbank.specs.Access.{RowKinds, Executed, bank_of, rows_of, noted_rows, amalgamated_rows}
use Rattle.eve_smallbank.specs.Chain.{Table, Sees, values_of}
use Rattle.eve_smallbank.specs.Touch.{knows_names, touched_of, rows_in}
use Rattle.eve_smallbank.specs.Execution.{executed_on}
use Rattle.eve_smallbank.proofs.Members.{all_in, all_from_in}
use Rattle.eve_smallbank.proofs.FittingRecords.{always_fits}
use Rattle.eve_smallbank.proofs.Records.{accepted, noted_sees, touches_rows}
use Rattle.eve_smallbank.proofs.Unique.{numbers, entries_are_rows, made_of_table}
use Rattle.eve_stamps.specs.OpeningRows.{stripe_of}
use Rattle.eve_stamps_schedule.specs.Stripes.{needs}
use Rattle.eve_stamps_schedule.proofs.CommonStripes.{in_map, in_stripe, needed}

-- a row of a customer, in a stripe that the request needs
pub record IsPlaced (names : List (List ℕ)) (request : Request) (row : ℕ) : Type 0 where
  pub within : row < 2 * length names
  pub needed : needs names request (stripe_of row) ≡ true

-- ---- of what it touches

pub rows_placed : (names : List (List ℕ)) (request : Request)
    → AllByRecursion (IsPlaced names request) (numbers (rows_in (touched_of names request)))
rows_placed names request =
    all_from_in (IsPlaced names request) (numbers (rows_in (touched_of names request))) (λ row i. record {
      within = all_in (λ r. r < 2 * length names) (within names request) i;
      needed = in_stripe (rows_in (touched_of names request)) row i;
    })
  where
    within : (names : List (List ℕ)) (request : Request)
        → AllByRecursion (λ r. r < 2 * length names) (numbers (rows_in (touched_of names request)))
    within names request =
        let x : Executed = executed_on names (λ row. record { version = 0; value = pos 0 }) request in
        subst (AllByRecursion (λ r. r < 2 * length names))
        (touches_rows names x (always_fits names (λ row. record { version = 0; value = pos 0 }) request))
        (entries_are_rows names x (always_fits names (λ row. record { version = 0; value = pos 0 }) request)).within

-- ---- of what it notes

sees_own : (names : List (List ℕ)) (table : Table) (request : Request)
    → AllByRecursion (Sees table) (executed_on names table request).entries
sees_own names table request =
    noted_sees names table (does (bank_of names (values_of table)) request).0
    (noted_rows (does (bank_of names (values_of table)) request).1 (rows_of names request))

pub entries_placed : (names : List (List ℕ)) (table : Table) (request : Request)
    → AllByRecursion (λ e. IsPlaced names request e.row) (executed_on names table request).entries
entries_placed names table request =
    let x : Executed = executed_on names table request in
    all_from_in (λ e. IsPlaced names request e.row) x.entries (λ e i. record {
      within = all_in (λ r. r < 2 * length names) (entries_are_rows names x (always_fits names table request)).within
          (in_map (λ (f : Entry). f.row) i);
      needed = needed names table request e i;
    })

-- tables that have the same in these rows make the same of it
pub executed_alike : (names : List (List ℕ)) (t u : Table) (request : Request)
    → ((row : ℕ) → IsPlaced names request row → t row ≡ u row)
    → executed_on names t request ≡ executed_on names u request
executed_alike names t u request same =
    let x : Executed = executed_on names t request in
    made_of_table names u x (always_fits names t request) (all_from_in (Sees u) x.entries (λ e i.
    let seen : Sees t e = all_in (Sees t) (sees_own names t request) i in
    let at : t e.row ≡ u e.row =
    same e.row (all_in (λ (f : Entry). IsPlaced names request f.row) (entries_placed names t request) i) in
    record { version = seen.version ∙ ap (λ v. v.version) at; value = seen.value ∙ ap (λ v. v.value) at }))

-- ---- it touches a row, where it isn't refused

some_rows : (o : Option ℕ) (f : ℕ → RowKinds) → is_some o ≡ true → ((c : ℕ) → 0 < length (f c))
    → 0 < length (unwrap_or (option_map f o) [])
some_rows None f known some = absurd (false≢true known)
some_rows (Some c) f known some = some c

some_amalgamated : (from to : ℕ) → 0 < length (amalgamated_rows from to)
some_amalgamated from to = by (from == to)
  where
    by : (b : Bool) → 0 < length {A = ℕ × Kind}
        (cond b ((2 * from, Write) ∷ (2 * from + 1, Write) ∷ [])
        ((2 * from, Write) ∷ (2 * from + 1, Write) ∷ (2 * to + 1, Write) ∷ []))
    by true = omega arith
    by false = omega arith

pub some_touched : (names : List (List ℕ)) (request : Request) (rows : RowKinds) → touched_of names request
    ≡ touched.Rows rows → 0 < length rows
some_touched names request rows is = let right = accepted names request rows is in
    subst (λ (rs : RowKinds). 0 < length rs) right.own (by request right.known)
  where
    by : (request : Request) → knows_names names request ≡ true → 0 < length (rows_of names request)
    by (Balance name) known = some_rows (customer_named names name) _
        (and_parts (is_some (customer_named names name)) true known).0 (λ c. omega arith)
    by (DepositChecking name amount) known = some_rows (customer_named names name) _
        (and_parts (is_some (customer_named names name)) true known).0 (λ c. omega arith)
    by (TransactSaving name amount) known = some_rows (customer_named names name) _
        (and_parts (is_some (customer_named names name)) true known).0 (λ c. omega arith)
    by (Amalgamate from to) known =
        let parts = and_parts (is_some (customer_named names from)) (is_some (customer_named names to) && true) known in
        some_rows (customer_named names from) _ parts.0
        (λ c. some_rows (customer_named names to) (amalgamated_rows c)
        (and_parts (is_some (customer_named names to)) true parts.1).0 (some_amalgamated c))
    by (WriteCheck name amount) known = some_rows (customer_named names name) _
        (and_parts (is_some (customer_named names name)) true known).0 (λ c. omega arith)
