-- Public: other crates cite these lemmas. Balances as lists, and tokens that are due.
use Rattle.std.proofs.Common.{◌≡◌, ℕ, zero, suc, ◌*◌, ◌≤◌, ℤ, pos, List, [], ◌∷◌}
use Rattle.std.proofs.Common.{◌++◌, length, take, refl, sym, ap, ◌∙◌, arith}
use Rattle.std.proofs.Common.{add-one, take_all}
use Rattle.std.proofs.lemmas.List.{take_more}
use Rattle.eve_smallbank.specs.Access.{balance_of_row}
use Rattle.eve_grammar.specs.Trace.{Trace}
use Rattle.eve_views.specs.declared.fault.Code.{Code}
use Rattle.eve_views.specs.declared.fault.Code.TheVariants as code
use Rattle.eve_views.specs.declared.fault.Fault.{Fault}
use Rattle.eve_views.specs.Form.{IsFaultIn}
use Rattle.eve_grammar.proofs.OpeningRows.{length-opening_rows}
use Rattle.eve_chains.specs.Committed.{first_rows}
use Rattle.eve_chains.specs.CommittedValues.{settling}
use Rattle.eve_agree.specs.DueTokens.{TokensAreDue, StandsInTokens}

-- ---- all balances

rows_to : (b : List ℤ) (n : ℕ) → n ≤ length b → take n b ≡ first_rows n (balance_of_row b)
rows_to b zero le = refl
rows_to b (suc n) le =
    ap (λ (m : ℕ). take m b) (sym (add-one n)) ∙ take_more b n (pos 0) (omega arith)
    ∙ ap (λ (xs : List ℤ). xs ++ balance_of_row b n ∷ []) (rows_to b n (omega arith))

-- a list of balances is that of its rows
pub rows_are : (b : List ℤ) → b ≡ first_rows (length b) (balance_of_row b)
rows_are b = sym (take_all (length b) b (omega arith)) ∙ rows_to b (length b) (omega arith)

-- ---- what was told

pub rows_told : (t : Trace) (e : ℕ) → length (settling t e).opening ≡ 2 * length t.customers
unfolding settling
rows_told t e = length-opening_rows t.customers

-- ---- tokens

module _ (t : Trace) (e : ℕ) where
  pub no_token_fault : TokensAreDue t e → (f : Fault) → ¬ IsFaultIn StandsInTokens t e f
  no_token_fault due f is = by f.code is.stands
    where
      by : (c : Code) → StandsInTokens c t e f.offset → ⊥
      by code.Token stands = stands.holds (due stands.n stands.item stands.is)
      by c stands = absurd stands
