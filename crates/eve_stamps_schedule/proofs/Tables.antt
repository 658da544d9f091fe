-- What entries make of a table, row by row.
use Rattle.std.proofs.Common.{◌≡◌, ℕ, ◌+◌, ◌≤◌, ◌==◌, Bool, true, false, cond, List, [], ◌∷◌, filter, length, refl, sym}
use Rattle.std.proofs.Common.{subst, ap, ◌∙◌, inl, inr, arith}
use Rattle.std.specs.List.{AllByRecursion}
use Rattle.std.proofs.lemmas.Bool.{cases_Bool, ne_eqb, eqb-true, and_parts, and_right, cond-true, cond-false}
use Rattle.std.proofs.lemmas.Bool.{true≢false}
use Rattle.eve_smallbank.specs.declared.entry.Entry.{Entry}
use Rattle.eve_smallbank.specs.Access.{Executed, is_write, writes_row}
use Rattle.eve_smallbank.specs.Chain.{Table, Sees, left_by, table_after, table_after_all}
use Rattle.eve_smallbank.proofs.Chains.{Follows}
use Rattle.eve_smallbank.proofs.Orders.{same_row}

-- a table with the entry's write
abbrev with_write : Table → Entry → Table
with_write table e row = cond (writes_row row e) (left_by e) (table row)

not_written : (row : ℕ) (e : Entry) → ¬ (e.row ≡ row) → writes_row row e ≡ false
not_written row e other = and_right (is_write e.kind) (e.row == row) (ne_eqb e.row row other)

-- entries of other rows
pub table_after-none : (t : Table) (es : List Entry) (row : ℕ) → AllByRecursion (λ e. ¬ (e.row ≡ row)) es
    → table_after t es row ≡ t row
table_after-none t [] row others = refl
table_after-none t (e ∷ es) row others =
    table_after-none (with_write t e) es row others.1
    ∙ ap (λ b. cond b (left_by e) (t row)) (not_written row e others.0)

-- of all entries those that count for a row
pub table_after-some : (t : Table) (p : Entry → Bool) (es : List Entry) (row : ℕ)
    → AllByRecursion (λ e. e.row ≡ row → p e ≡ true) es
    → table_after t (filter p es) row ≡ table_after t es row
table_after-some t p [] row count = refl
table_after-some t p (e ∷ es) row count =
    elim (cases_Bool (p e)) [
      | inl passes ↦
          ap (λ fs. table_after t fs row) (cond-true (p e) (e ∷ filter p es) (filter p es) passes)
          ∙ table_after-some (with_write t e) p es row count.1
      | inr fails ↦
          let other : ¬ (e.row ≡ row) = λ same. true≢false (sym (count.0 same) ∙ fails) in
          ap (λ fs. table_after t fs row) (cond-false (p e) (e ∷ filter p es) (filter p es) fails)
          ∙ table_after-some t p es row count.1
          ∙ same_row t (with_write t e) row es
          (sym (ap (λ b. cond b (left_by e) (t row)) (not_written row e other)))
    ]

-- ---- versions

one_higher : (t : Table) (u : Table) (es : List Entry) (row n : ℕ) → AllByRecursion (Sees t) es → (t row).version ≤ n
    → (u row).version ≤ n + 1 → (table_after u es row).version ≤ n + 1
one_higher t u [] row n sees low high = high
one_higher t u (e ∷ es) row n sees low high =
    one_higher t (with_write u e) es row n sees.1 low
    (elim (cases_Bool (writes_row row e)) [
      | inl writes ↦
          let same : e.row ≡ row = eqb-true e.row row (and_parts (is_write e.kind) (e.row == row) writes).1 in
          let seen : e.version ≡ (t row).version = sees.0.version ∙ ap (λ r. (t r).version) same in
          subst (λ v. v.version ≤ n + 1) (sym (cond-true (writes_row row e) (left_by e) (u row) writes)) (omega arith)
      | inr not ↦ subst (λ v. v.version ≤ n + 1) (sym (cond-false (writes_row row e) (left_by e) (u row) not)) high
    ])

-- a request raises a version by 1 at most
pub few_versions : (t : Table) (xs : List Executed) (row n : ℕ) → Follows t xs → (t row).version ≤ n
    → (table_after_all t xs row).version ≤ n + length xs
few_versions t [] row n follows low = omega arith
few_versions t (x ∷ xs) row n follows low =
    let rest : (table_after_all (table_after t x.entries) xs row).version ≤ n + 1 + length xs =
    few_versions (table_after t x.entries) xs row (n + 1) follows.1
    (one_higher t t x.entries row n follows.0 low (omega arith)) in
    omega arith
