-- How versions rise along a journal.
use Rattle.std.proofs.Common.{◌≡◌, ℕ, ◌+◌, ◌<◌, ◌≤◌, ◌==◌, Bool, true, false, not, cond, ◌||◌, List, [], ◌∷◌, filter}
use Rattle.std.proofs.Common.{refl, sym, subst, ap, ◌∙◌, inl, inr, arith}
use Rattle.std.specs.List.{AllByRecursion, list_any}
use Rattle.std.proofs.lemmas.Bool.{cases_Bool, eqb-true, eq-eqb, ne_eqb, and_parts, or_cases, false≢true, leb-false}
use Rattle.eve_smallbank.specs.declared.entry.Entry.{Entry}
use Rattle.eve_smallbank.specs.Access.{is_write, writes_row}
use Rattle.eve_smallbank.specs.Chain.{Table, Sees, left_by, table_after}
use Rattle.eve_grammar.specs.declared.limits.TheConstants.{MOST_VERSIONS}
use Rattle.eve_stamps.specs.declared.journal.Journaled.{Journaled}
use Rattle.eve_stamps.specs.Stripes.{HeldRow, Stripe, IsStripe, lies_in, row_in, rows_in_table, AreWithinLimit}
use Rattle.eve_stamps.specs.Stripes.{committed}
use Rattle.eve_stamps.specs.Stripes.{rows_now, table_after_journal, AreJournaled, was_written, restores_of}
use Rattle.eve_stamps.specs.HeldRows.{rows_changed, CanBeNoted}
use Rattle.eve_stamps.proofs.RowLaws.{rows_in_table-self}

-- what entries that see the table t leave in another
pub version_after : (t u : Table) (es : List Entry) (row : ℕ) → AllByRecursion (Sees t) es
    → (table_after u es row).version ≡ cond (list_any (writes_row row) es) ((t row).version + 1) (u row).version
version_after t u [] row sees = refl
version_after t u (e ∷ es) row sees =
    version_after t (λ r. cond (writes_row r e) (left_by e) (u r)) es row sees.1
    ∙ elim (cases_Bool (writes_row row e)) [
      | inl writes ↦
          ap (λ b. cond (list_any (writes_row row) es) ((t row).version + 1) (cond b (left_by e) (u row)).version)
          writes
          ∙ ap (λ n. cond (list_any (writes_row row) es) ((t row).version + 1) (n + 1))
          (sees.0.version ∙ ap (λ r. (t r).version)
          (eqb-true e.row row (and_parts (is_write e.kind) (e.row == row) writes).1))
          ∙ both (list_any (writes_row row) es) ((t row).version + 1)
          ∙ ap (λ b. cond (b || list_any (writes_row row) es) ((t row).version + 1) (u row).version) (sym writes)
      | inr kept ↦
          ap (λ b. cond (list_any (writes_row row) es) ((t row).version + 1) (cond b (left_by e) (u row)).version) kept
          ∙ ap (λ b. cond (b || list_any (writes_row row) es) ((t row).version + 1) (u row).version) (sym kept)
    ]
  where
    both : (b : Bool) (n : ℕ) → cond b n n ≡ n
    both true n = refl
    both false n = refl

-- a row that the journal wrote has a higher version, any other the same
pub record IsRisen (before after : ℕ) (written : Bool) : Type 0 where
  pub higher : written ≡ true → before < after
  pub same : written ≡ false → after ≡ before

pub risen : (t : Table) (js : List Journaled) (row : ℕ) → AreJournaled t js
    → IsRisen (t row).version (table_after_journal t js row).version (was_written js row)
risen t [] row seen = record { higher = λ h. absurd (false≢true h); same = λ h. refl }
risen t (j ∷ js) row seen =
    let rest : IsRisen (table_after t j.entries row).version
    (table_after_journal (table_after t j.entries) js row).version (was_written js row) =
    risen (table_after t j.entries) js row seen.1 in
    let one : (table_after t j.entries row).version ≡ cond (list_any (writes_row row) j.entries) ((t row).version + 1)
    (t row).version = version_after t t j.entries row seen.0 in
    join (t row).version (table_after t j.entries row).version
    (table_after_journal (table_after t j.entries) js row).version (list_any (writes_row row) j.entries)
    (was_written js row) one rest
  where
    join : (v w x : ℕ) (a b : Bool) → w ≡ cond a (v + 1) v → IsRisen w x b → IsRisen v x (a || b)
    join v w x true true e r =
        record { higher = λ h. omega (arith, r.higher refl); same = λ h. absurd (false≢true (sym h)) }
    join v w x true false e r =
        record { higher = λ h. omega (arith, r.same refl); same = λ h. absurd (false≢true (sym h)) }
    join v w x false true e r =
        record { higher = λ h. omega (arith, r.higher refl); same = λ h. absurd (false≢true (sym h)) }
    join v w x false false e r = record { higher = λ h. absurd (false≢true h); same = λ h. r.same refl ∙ e }

no_lower : (before after : ℕ) (written : Bool) → IsRisen before after written → before ≤ after
no_lower before after true r = omega (arith, r.higher refl)
no_lower before after false r = omega (arith, r.same refl)

told_apart : (before after : ℕ) (written : Bool) → IsRisen before after written → (before == after) ≡ not written
told_apart before after true r = ne_eqb before after (λ e. omega (arith, r.higher refl))
told_apart before after false r = eq-eqb before after (sym (r.same refl))

-- ---- rows that were written

-- rows whose versions tell what was written
changed_rows : (table : Table) (js : List Journaled) (rows : List HeldRow)
    → AllByRecursion (λ r. (r.version == (table r.row).version) ≡ not (was_written js r.row)) rows
    → rows_changed rows (rows_in_table table rows) ≡ filter (λ r. was_written js r.row) rows
changed_rows table js [] told = refl
changed_rows table js (r ∷ rows) told = step (was_written js r.row) told.0 (changed_rows table js rows told.1)
  where
    step : (b : Bool) → (r.version == (table r.row).version) ≡ not b → rows_changed rows (rows_in_table table rows)
        ≡ filter (λ q. was_written js q.row) rows
        → cond (r.version == (table r.row).version) (rows_changed rows (rows_in_table table rows))
        (r ∷ rows_changed rows (rows_in_table table rows))
        ≡ cond b (r ∷ filter (λ q. was_written js q.row) rows) (filter (λ q. was_written js q.row) rows)
    step true is rest = ap (λ c. cond c (rows_changed rows (rows_in_table table rows))
        (r ∷ rows_changed rows (rows_in_table table rows))) is ∙ ap (λ (rs : List HeldRow). r ∷ rs) rest
    step false is rest = ap (λ c. cond c (rows_changed rows (rows_in_table table rows))
        (r ∷ rows_changed rows (rows_in_table table rows))) is ∙ rest

-- where a table has the versions of these rows
versions_told : (t : Table) (js : List Journaled) (rows : List HeldRow) → AreJournaled t js → rows_in_table t rows
    ≡ rows
    → AllByRecursion (λ r. (r.version == (table_after_journal t js r.row).version) ≡ not (was_written js r.row)) rows
versions_told t js [] seen same = tt
versions_told t js (r ∷ rows) seen same =
    let here : row_in t r.row ≡ r = cc in
    let rest : rows_in_table t rows ≡ rows = cc in (
      ap (λ (q : HeldRow). q.version == (table_after_journal t js r.row).version) (sym here)
          ∙ told_apart (t r.row).version (table_after_journal t js r.row).version (was_written js r.row)
          (risen t js r.row seen),
      versions_told t js rows seen rest,
    )

pub changed_is : (s : Stripe) → IsStripe s → rows_changed s.base (rows_in_table (rows_now s) s.base) ≡ restores_of s
changed_is s stands =
    changed_rows (rows_now s) s.journal s.base
    (versions_told (committed s) s.journal s.base stands.seen (rows_in_table-self s.base stands.rows))

-- ---- the limit

-- no version was higher before
pub limit_before : (t : Table) (js : List Journaled) (rows : List HeldRow) → AreJournaled t js
    → AreWithinLimit (rows_in_table (table_after_journal t js) rows) → AreWithinLimit (rows_in_table t rows)
limit_before t js [] seen limit = tt
limit_before t js (r ∷ rows) seen limit = (
  omega (
    arith,
    no_lower (t r.row).version (table_after_journal t js r.row).version (was_written js r.row)
        (risen t js r.row seen),
    limit.0,
  ),
  limit_before t js rows seen limit.1,
)

-- the versions within the limit are those of the rows
pub limit_at : (t : Table) (rows : List HeldRow) (row : ℕ) → AreWithinLimit (rows_in_table t rows) → lies_in rows row
    ≡ true → (t row).version ≤ MOST_VERSIONS
limit_at t [] row limit there = absurd (false≢true there)
limit_at t (r ∷ rows) row limit there =
    elim (or_cases (r.row == row) (lies_in rows row) there) [
      | inl here ↦ subst (λ q. (t q).version ≤ MOST_VERSIONS) (eqb-true r.row row here) limit.0
      | inr rest ↦ limit_at t rows row limit.1 rest
    ]

-- a row that is written was below it
fresh_below : (is_there : ℕ → Bool) (t : Table) (es : List Entry) (row : ℕ) → AllByRecursion (CanBeNoted is_there t) es
    → list_any (writes_row row) es ≡ true → (t row).version < MOST_VERSIONS
fresh_below is_there t [] row noted writes = absurd (false≢true writes)
fresh_below is_there t (e ∷ es) row noted writes =
    elim (or_cases (writes_row row e) (list_any (writes_row row) es) writes) [
      | inl here ↦
          let parts = and_parts (is_write e.kind) (e.row == row) here in
          subst (λ q. (t q).version < MOST_VERSIONS) (eqb-true e.row row parts.1)
          (leb-false MOST_VERSIONS (t e.row).version (noted.0.fresh parts.0))
      | inr rest ↦ fresh_below is_there t es row noted.1 rest
    ]

pub all_sees : (is_there : ℕ → Bool) (t : Table) (es : List Entry) → AllByRecursion (CanBeNoted is_there t) es
    → AllByRecursion (Sees t) es
all_sees is_there t [] noted = tt
all_sees is_there t (e ∷ es) noted = (noted.0.sees, all_sees is_there t es noted.1)

pub limit_after : (is_there : ℕ → Bool) (t : Table) (es : List Entry) (rows : List HeldRow)
    → AllByRecursion (CanBeNoted is_there t) es → AreWithinLimit (rows_in_table t rows)
    → AreWithinLimit (rows_in_table (table_after t es) rows)
limit_after is_there t es [] noted limit = tt
limit_after is_there t es (r ∷ rows) noted limit = (
  step (list_any (writes_row r.row) es) (fresh_below is_there t es r.row noted)
      (version_after t t es r.row (all_sees is_there t es noted)),
  limit_after is_there t es rows noted limit.1,
)
  where
    step : (b : Bool) → (b ≡ true → (t r.row).version < MOST_VERSIONS) → (table_after t es r.row).version
        ≡ cond b ((t r.row).version + 1) (t r.row).version → (table_after t es r.row).version ≤ MOST_VERSIONS
    step true below is = let less : (t r.row).version < MOST_VERSIONS = below refl in omega (arith, is)
    step false below is = subst (λ n. n ≤ MOST_VERSIONS) (sym is) limit.0
