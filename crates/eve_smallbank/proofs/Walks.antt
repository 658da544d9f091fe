-- A row is chained where its own entries, gathered along the requests, are a walk.
use Rattle.std.proofs.Common.{◌≡◌, ℕ, ◌≤◌, ◌==◌, Bool, true, false, cond, ◌&&◌, List, [], ◌∷◌, ◌++◌, filter, length}
use Rattle.std.proofs.Common.{refl, sym, subst, ap, ◌∙◌, inl, inr, arith}
use Rattle.std.proofs.lemmas.Bool.{cases_Bool, eq-eqb, eqb-true, cond-true, cond-false, false≢true}
use Rattle.std.specs.List.{AllByRecursion}
use Rattle.eve_smallbank.specs.declared.entry.Entry.{Entry}
use Rattle.eve_smallbank.specs.Access.{Executed, is_write, writes_row}
use Rattle.eve_smallbank.specs.Chain.{Table, left_by, visible_at, before_next, Sees, IsRowChained, after_own}
use Rattle.eve_smallbank.specs.Chain.{IsWalk, own_entries, row_entries, HasOneEach, table_after}
use Rattle.eve_smallbank.proofs.Chains.{visible_at-before_next}
use Rattle.eve_smallbank.specs.declared.versioned.Versioned.{Versioned}

-- what the row has after its own entries
abbrev walked : Versioned → List Entry → Versioned
walked v [] = v
walked v (e ∷ es) = walked (after_own v e) es

and_flag : (a b : Bool) (e : Entry) (v : Versioned) → b ≡ true → cond (a && b) (left_by e) v ≡ cond a (left_by e) v
and_flag true b e v h = ap (λ c. cond c (left_by e) v) h
and_flag false b e v h = refl

no_flag : (a b : Bool) (e : Entry) (v : Versioned) → b ≡ false → cond (a && b) (left_by e) v ≡ v
no_flag true b e v h = ap (λ c. cond c (left_by e) v) h
no_flag false b e v h = refl

-- a table at the row goes by the row's own entries alone
table_after-walked : (table : Table) (row : ℕ) (es : List Entry) → table_after table es row
    ≡ walked (table row) (filter (λ e. e.row == row) es)
table_after-walked table row [] = refl
table_after-walked table row (e ∷ es) =
    let set : Table = λ r. cond (writes_row r e) (left_by e) (table r) in
    table_after-walked set row es
    ∙ elim (cases_Bool (e.row == row)) [
      | inl same ↦ ap (λ (v : Versioned). walked v (filter (λ d. d.row == row) es))
          (and_flag (is_write e.kind) (e.row == row) e (table row) same)
          ∙ ap (walked (table row))
          (sym (cond-true (e.row == row) (e ∷ filter (λ d. d.row == row) es) (filter (λ d. d.row == row) es) same))
      | inr other ↦ ap (λ (v : Versioned). walked v (filter (λ d. d.row == row) es))
          (no_flag (is_write e.kind) (e.row == row) e (table row) other)
          ∙ ap (walked (table row))
          (sym (cond-false (e.row == row) (e ∷ filter (λ d. d.row == row) es) (filter (λ d. d.row == row) es)
          other))
    ]

-- what holds of the row's own entries holds of all entries of the row
of_own : (P : Entry → Type 0) (row : ℕ) (es : List Entry) → AllByRecursion P (filter (λ e. e.row == row) es)
    → AllByRecursion (λ e. e.row ≡ row → P e) es
of_own P row [] all = tt
of_own P row (e ∷ es) all =
    elim (cases_Bool (e.row == row)) [
      | inl same ↦
          let here : AllByRecursion P (e ∷ filter (λ d. d.row == row) es)
          = subst (AllByRecursion P)
          (cond-true (e.row == row) (e ∷ filter (λ d. d.row == row) es) (filter (λ d. d.row == row) es) same) all in
          ((λ _. here.0), of_own P row es here.1)
      | inr other ↦ (
        (λ equal. absurd (false≢true (sym other ∙ eq-eqb e.row row equal))),
        of_own P row es (subst (AllByRecursion P)
            (cond-false (e.row == row) (e ∷ filter (λ d. d.row == row) es) (filter (λ d. d.row == row) es) other) all),
      )
    ]

-- the entries of the row that stand first, one at most, see what is there, and the rest is a walk
first_walk : (table : Table) (row : ℕ) (own rest : List Entry) → length own ≤ 1 → AllByRecursion (λ e. e.row ≡ row) own
    → IsWalk (table row) (own ++ rest)
    → AllByRecursion (Sees table) own × IsWalk (walked (table row) own) rest
first_walk table row [] rest few rows walk = (tt, walk)
first_walk table row (e ∷ []) rest few rows walk = (
  (
    record {
      version = walk.0 ∙ ap (λ r. (table r).version) (sym rows.0);
      value = walk.1
          ∙ ap (λ r. (table r).value) (sym rows.0);
    },
    tt,
  ),
  walk.2,
)
first_walk table row (e ∷ d ∷ es) rest few rows walk = absurd (omega arith)

filter_rows : (row : ℕ) (es : List Entry) → AllByRecursion (λ e. e.row ≡ row) (filter (λ e. e.row == row) es)
filter_rows row [] = tt
filter_rows row (e ∷ es) =
    elim (cases_Bool (e.row == row)) [
      | inl same ↦ subst (AllByRecursion (λ d. d.row ≡ row))
          (sym (cond-true (e.row == row) (e ∷ filter (λ d. d.row == row) es) (filter (λ d. d.row == row) es) same))
          (eqb-true e.row row same, filter_rows row es)
      | inr other ↦ subst (AllByRecursion (λ d. d.row ≡ row))
          (sym (cond-false (e.row == row) (e ∷ filter (λ d. d.row == row) es) (filter (λ d. d.row == row) es) other))
          (filter_rows row es)
    ]

pub row_chained_by_walk : (base : Table) (row : ℕ) (before : List Entry) (xs : List Executed) → HasOneEach row xs
    → IsWalk (visible_at base before row) (row_entries row xs)
    → IsRowChained base row before xs
row_chained_by_walk base row before [] few walk = tt
row_chained_by_walk base row before (x ∷ xs) few walk =
    let first = first_walk (visible_at base before) row (own_entries row x) (row_entries row xs) few.0
    (filter_rows row x.entries) walk in (
      of_own (Sees (visible_at base before)) row x.entries first.0,
      row_chained_by_walk base row (before_next before x.entries) xs few.1
          (subst (λ v. IsWalk v (row_entries row xs))
          (sym (ap (λ (table : Table). table row) (visible_at-before_next base before x.entries)
          ∙ table_after-walked (visible_at base before) row x.entries)) first.1),
    )
