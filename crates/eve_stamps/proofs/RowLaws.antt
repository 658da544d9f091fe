-- Rows as a list and as a table.
use Rattle.std.proofs.Common.{◌≡◌, ℕ, pos, zero, suc, ◌+◌, ◌<◌, ◌==◌, Bool, true, false, cond, ◌||◌, ◌&&◌, List, []}
use Rattle.std.proofs.Common.{◌∷◌, set, slice_get, Some, refl, sym, ap, ap₂, ◌∙◌, inl, inr, arith}
use mathlib.Core.Path.{fun_ext}
use Rattle.std.specs.List.{AllByRecursion}
use Rattle.std.proofs.lemmas.Bool.{cases_Bool, eqb-true, eq-eqb, ne_eqb, or_parts, or_right}
use Rattle.std.proofs.lemmas.Option.{none-some}
use Rattle.eve_smallbank.specs.declared.entry.Kind.TheVariants.{Read, Write}
use Rattle.eve_smallbank.specs.declared.entry.Entry.{Entry}
use Rattle.eve_smallbank.specs.Access.{is_write}
use Rattle.eve_smallbank.specs.Chain.{Table, left_by, table_after}
use Rattle.eve_smallbank.specs.declared.versioned.Versioned.{Versioned}
use Rattle.eve_grammar.proofs.Codec.{some_is}
use Rattle.eve_grammar.proofs.Lists.{all-slice_get}
use Rattle.eve_stamps.specs.Stripes.{HeldRow, lies_in, table_in, row_in, rows_in_table, RowsRise}

-- what a row has that isn't there
abbrev pub nothing : Versioned
nothing = record { version = 0; value = pos 0 }

pub table_in-rows : (table : Table) (rows : List HeldRow) (row : ℕ) → table_in (rows_in_table table rows) row
    ≡ cond (lies_in rows row) (table row) nothing
table_in-rows table [] row = refl
table_in-rows table (r ∷ rows) row = step (r.row == row) refl (table_in-rows table rows row)
  where
    step : (b : Bool) → (r.row == row) ≡ b → table_in (rows_in_table table rows) row
        ≡ cond (lies_in rows row) (table row) nothing
        → table_in (rows_in_table table (r ∷ rows)) row ≡ cond (lies_in (r ∷ rows) row) (table row) nothing
    step true is rest =
        ap (λ c. cond c (table r.row) (table_in (rows_in_table table rows) row)) is
        ∙ ap table (eqb-true r.row row is) ∙ ap (λ c. cond (c || lies_in rows row) (table row) nothing) (sym is)
    step false is rest =
        ap (λ c. cond c (table r.row) (table_in (rows_in_table table rows) row)) is
        ∙ rest ∙ ap (λ c. cond (c || lies_in rows row) (table row) nothing) (sym is)

pub table_in-outside : (rows : List HeldRow) (row : ℕ) → lies_in rows row ≡ false → table_in rows row ≡ nothing
table_in-outside [] row out = refl
table_in-outside (r ∷ rows) row out =
    let parts = or_parts (r.row == row) (lies_in rows row) out in
    ap (λ c. cond c (record { version = r.version; value = r.value }) (table_in rows row)) parts.0
    ∙ table_in-outside rows row parts.1

-- a table that has nothing in other rows is told by these
pub table_in-whole : (table : Table) (rows : List HeldRow)
    → ((row : ℕ) → lies_in rows row ≡ false → table row ≡ nothing) → table_in (rows_in_table table rows) ≡ table
table_in-whole table rows none =
    fun_ext (λ row. table_in-rows table rows row ∙ elim (cases_Bool (lies_in rows row)) [
      | inl there ↦ ap (λ b. cond b (table row) nothing) there
      | inr out ↦ ap (λ b. cond b (table row) nothing) out ∙ sym (none row out)
    ])

pub lies_in-rows : (table : Table) (rows : List HeldRow) (row : ℕ) → lies_in (rows_in_table table rows) row
    ≡ lies_in rows row
lies_in-rows table [] row = refl
lies_in-rows table (r ∷ rows) row = ap (λ b. (r.row == row) || b) (lies_in-rows table rows row)

all_rows : (table : Table) (row : ℕ) (rows : List HeldRow) → AllByRecursion (λ q. row < q.row) rows
    → AllByRecursion (λ q. row < q.row) (rows_in_table table rows)
all_rows table row [] above = tt
all_rows table row (r ∷ rows) above = (above.0, all_rows table row rows above.1)

pub RowsRise-rows : (table : Table) (rows : List HeldRow) → RowsRise rows → RowsRise (rows_in_table table rows)
RowsRise-rows table [] rise = tt
RowsRise-rows table (r ∷ rows) rise = (all_rows table r.row rows rise.0, RowsRise-rows table rows rise.1)

pub rows_in_table-twice : (table other : Table) (rows : List HeldRow) → rows_in_table table (rows_in_table other rows)
    ≡ rows_in_table table rows
rows_in_table-twice table other [] = refl
rows_in_table-twice table other (r ∷ rows) = ap (λ rest. row_in table r.row ∷ rest)
    (rows_in_table-twice table other rows)

-- tables that have the same in these rows
pub rows_in_table-same : (table other : Table) (rows : List HeldRow)
    → AllByRecursion (λ r. table r.row ≡ other r.row) rows → rows_in_table table rows ≡ rows_in_table other rows
rows_in_table-same table other [] same = refl
rows_in_table-same table other (r ∷ rows) same =
    ap (λ (v : Versioned). record { row = r.row; version = v.version; value = v.value } ∷ rows_in_table table rows)
    same.0
    ∙ ap (λ rest. row_in other r.row ∷ rest) (rows_in_table-same table other rows same.1)

-- ---- rows that rise

not_above : (row : ℕ) (r : HeldRow) → row < r.row → (row == r.row) ≡ false
not_above row r above = ne_eqb row r.row (λ same. omega arith)

-- the rows above a row read the tables alike
alike_above : (row : ℕ) (v : Versioned) (table : Table) (rows : List HeldRow) → AllByRecursion (λ q. row < q.row) rows
    → AllByRecursion (λ q. cond (row == q.row) v (table q.row) ≡ table q.row) rows
alike_above row v table [] above = tt
alike_above row v table (r ∷ rows) above =
    (ap (λ b. cond b v (table r.row)) (not_above row r above.0), alike_above row v table rows above.1)

pub rows_in_table-self : (rows : List HeldRow) → RowsRise rows → rows_in_table (table_in rows) rows ≡ rows
rows_in_table-self [] rise = refl
rows_in_table-self (r ∷ rows) rise =
    let v : Versioned = record { version = r.version; value = r.value } in
    ap (λ (w : Versioned). record { row = r.row; version = w.version; value = w.value } ∷ rows_in_table
    (table_in (r ∷ rows)) rows)
    (ap (λ b. cond b v (table_in rows r.row)) (eq-eqb r.row r.row refl))
    ∙ ap (λ rest. r ∷ rest) (rows_in_table-same (table_in (r ∷ rows)) (table_in rows) rows
    (alike_above r.row v (table_in rows) rows rise.0) ∙ rows_in_table-self rows rise.1)

-- ---- one row of them

pub row_at : (table : Table) (rows : List HeldRow) (place : ℕ) (r : HeldRow) → slice_get rows place ≡ Some r
    → slice_get (rows_in_table table rows) place ≡ Some (row_in table r.row)
row_at table [] place r at = absurd (none-some r at)
row_at table (q ∷ rows) zero r at = ap (λ (x : HeldRow). Some (row_in table x.row)) (some_is q r at)
row_at table (q ∷ rows) (suc place) r at = row_at table rows place r at

pub lies_at : (rows : List HeldRow) (place row : ℕ) (r : HeldRow) → slice_get rows place ≡ Some r → r.row ≡ row
    → lies_in rows row ≡ true
lies_at [] place row r at same = absurd (none-some r at)
lies_at (q ∷ rows) zero row r at same =
    ap (λ b. b || lies_in rows row) (eq-eqb q.row row (ap (λ (x : HeldRow). x.row) (some_is q r at) ∙ same))
lies_at (q ∷ rows) (suc place) row r at same = or_right (q.row == row) (lies_in rows row)
    (lies_at rows place row r at same)

-- ---- one entry written

-- the row as the entry leaves it
abbrev pub left_in : Entry → HeldRow
left_in e = record { row = e.row; version = e.version + 1; value = e.after }

-- the table with the entry's write
abbrev with_entry : Table → Entry → Table
with_entry table e = table_after table (e ∷ [])

write_there : (table : Table) (e : Entry) (row : ℕ) → e.kind ≡ Write → e.row ≡ row → with_entry table e row ≡ left_by e
write_there table e row written same =
    ap (λ k. cond (is_write k && (e.row == row)) (left_by e) (table row)) written
    ∙ ap (λ b. cond b (left_by e) (table row)) (eq-eqb e.row row same)

write_elsewhere : (table : Table) (e : Entry) (row : ℕ) → e.kind ≡ Write → (e.row == row) ≡ false → table row
    ≡ with_entry table e row
write_elsewhere table e row written other =
    sym (ap (λ k. cond (is_write k && (e.row == row)) (left_by e) (table row)) written
    ∙ ap (λ b. cond b (left_by e) (table row)) other)

kept_above : (table : Table) (e : Entry) (row : ℕ) (rows : List HeldRow) → e.kind ≡ Write → row ≡ e.row
    → AllByRecursion (λ q. row < q.row) rows
    → AllByRecursion (λ q. table q.row ≡ with_entry table e q.row) rows
kept_above table e row [] written same above = tt
kept_above table e row (r ∷ rows) written same above = (
  write_elsewhere table e r.row written (not_above e.row r (omega (arith, above.0))),
  kept_above table e row rows written same above.1,
)

pub written_at : (table : Table) (rows : List HeldRow) (place : ℕ) (r : HeldRow) (e : Entry) → RowsRise rows
    → slice_get rows place ≡ Some r → r.row ≡ e.row → e.kind ≡ Write
    → set (rows_in_table table rows) place (left_in e) ≡ rows_in_table (table_after table (e ∷ [])) rows
written_at table [] place r e rise at same written = absurd (none-some r at)
written_at table (q ∷ rows) zero r e rise at same written =
    let here : q.row ≡ e.row = ap (λ (x : HeldRow). x.row) (some_is q r at) ∙ same in
    ap₂ (λ (x : HeldRow) (rest : List HeldRow). x ∷ rest)
    (ap (λ row. record { row = row; version = e.version + 1; value = e.after }) (sym here)
    ∙ ap (λ (v : Versioned). record { row = q.row; version = v.version; value = v.value })
    (sym (write_there table e q.row written (sym here))))
    (rows_in_table-same table (with_entry table e) rows (kept_above table e q.row rows written here rise.0))
written_at table (q ∷ rows) (suc place) r e rise at same written =
    let below : q.row < r.row = all-slice_get (λ x. q.row < x.row) rows place r rise.0 at in
    ap₂ (λ (x : HeldRow) (rest : List HeldRow). x ∷ rest)
    (ap (λ (v : Versioned). record { row = q.row; version = v.version; value = v.value })
    (write_elsewhere table e q.row written (ne_eqb e.row q.row (λ equal. omega arith))))
    (written_at table rows place r e rise.1 at same written)

pub write_at : (rows : List HeldRow) (place : ℕ) (r : HeldRow) (e : Entry) → RowsRise rows → slice_get rows place
    ≡ Some r → r.row ≡ e.row → e.kind ≡ Write
    → set rows place (left_in e) ≡ rows_in_table (table_after (table_in rows) (e ∷ [])) rows
write_at rows place r e rise at same written =
    ap (λ (xs : List HeldRow). set xs place (left_in e)) (sym (rows_in_table-self rows rise))
    ∙ written_at (table_in rows) rows place r e rise at same written

pub read_kept : (rows : List HeldRow) (e : Entry) → RowsRise rows → e.kind ≡ Read
    → rows ≡ rows_in_table (table_after (table_in rows) (e ∷ [])) rows
read_kept rows e rise read =
    sym (rows_in_table-self rows rise)
    ∙ ap (λ (table : Table). rows_in_table table rows)
    (fun_ext (λ row. ap (λ k. cond (is_write k && (e.row == row)) (left_by e) (table_in rows row)) (sym read)))
