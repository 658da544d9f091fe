-- Public: other crates cite these lemmas. The balances of all customers, row by row, make up the bank.
use Rattle.std.proofs.Common.{◌≡◌, ℕ, ℤ, zero, suc, pos, ◌+◌, ◌*◌, ◌≤◌, ◌<◌, List, [], ◌∷◌, ◌++◌, length, length-append}
use Rattle.std.proofs.Common.{get_or, refl, sym, subst, ap, ◌∙◌, inl, inr, arith}
use Rattle.std.proofs.lemmas.Bool.{cases_eq}
use Rattle.std.proofs.lemmas.List.{length-map}
use Rattle.std.proofs.Math.ListN.{get_or-append}
use Rattle.std.proofs.Math.Seq.{get_or-append_seam}
use Rattle.std.specs.FinMap.{insert}
use Rattle.eve_smallbank.specs.SmallBank.{Bank}
use Rattle.eve_smallbank.specs.Access.{account_at, bank_from, bank_of}
use Rattle.eve_grammar.specs.Trace.{Customer, Trace}
use Rattle.eve_history.specs.SectionHistory.{names_of}
use Rattle.eve_chains.specs.Committed.{first_rows, values_to, bank_after, balances_to}

pub rows_length : (n : ℕ) (values : ℕ → ℤ) → length (first_rows n values) ≡ n
rows_length zero values = refl
rows_length (suc n) values = let known = rows_length n values in simp length-append (omega arith)

row_of : (n : ℕ) (values : ℕ → ℤ) (row : ℕ) → row < n → get_or (first_rows n values) row (pos 0) ≡ values row
row_of zero values row below = absurd (omega arith)
row_of (suc n) values row below =
    elim (cases_eq row n) [
      | inl last ↦
          ap (λ i. get_or (first_rows n values ++ values n ∷ []) i (pos 0)) (last ∙ sym (rows_length n values))
          ∙ get_or-append_seam (first_rows n values) (values n) [] (pos 0)
          ∙ ap values (sym last)
      | inr other ↦
          get_or-append (first_rows n values) (values n ∷ []) (pos 0) row
          (subst (λ k. row < k) (sym (rows_length n values)) (omega arith))
          ∙ row_of n values row (omega arith)
    ]

same_row : (n : ℕ) (values others : ℕ → ℤ) → first_rows n values ≡ first_rows n others → (row : ℕ) → row < n
    → values row ≡ others row
same_row n values others same row below =
    sym (row_of n values row below) ∙ ap (λ (rows : List ℤ). get_or rows row (pos 0)) same ∙ row_of n others row below

same_from : (n customer : ℕ) (names : List (List ℕ)) (values others : ℕ → ℤ)
    → ((row : ℕ) → row < 2 * n → values row ≡ others row) → customer + length names ≤ n
    → bank_from customer names values ≡ bank_from customer names others
same_from n customer [] values others same fits = refl
same_from n customer (name ∷ names) values others same fits =
    ap (λ (bank : Bank). insert bank name (account_at values customer))
    (same_from n (customer + 1) names values others same (omega arith))
    ∙ ap (insert (bank_from (customer + 1) names others) name)
    (λ i. record { saving = same (2 * customer) (omega arith) i; checking = same (2 * customer + 1) (omega arith) i })

-- banks of the same names are equal where the rows of their customers are
pub same_banks : (names : List (List ℕ)) (values others : ℕ → ℤ) → first_rows (2 * length names) values
    ≡ first_rows (2 * length names) others → bank_of names values ≡ bank_of names others
unfolding bank_of
same_banks names values others same =
    same_from (length names) 0 names values others (same_row (2 * length names) values others same) (omega arith)

-- replicas with equal balances have equal banks
pub banks_agree : (t : Trace) (e f n : ℕ) → balances_to t e n ≡ balances_to t f n → bank_after t e n ≡ bank_after t f n
unfolding bank_after
banks_agree t e f n same =
    same_banks (names_of t) (values_to t e n) (values_to t f n)
    (subst (λ count. first_rows (2 * count) (values_to t e n) ≡ first_rows (2 * count) (values_to t f n))
    (sym (length-map t.customers (λ (c : Customer). c.name))) same)
