-- What a row has in a state that was transferred.
use Rattle.std.proofs.Common.{◌≡◌, ℕ, zero, suc, ◌≤◌, List, [], ◌∷◌, map, length, get_or, slice_get, Some, pos, refl}
use Rattle.std.proofs.Common.{ap}
use Rattle.std.proofs.Common.{arith}
use Rattle.std.proofs.lemmas.Option.{same_Some}
use Rattle.eve_smallbank.specs.declared.versioned.Versioned.{Versioned}
use Rattle.eve_grammar.specs.Trace.{Transfer}
use Rattle.eve_chains.specs.Visible.{transferred_table}
use Rattle.eve_chains.proofs.LinkedPaths.{none≢some}

pub state_there : (xs : List (ℕ × Transfer)) (k : ℕ) (x : ℕ × Transfer) → slice_get xs k ≡ Some x
    → get_or (map (λ y. y.1.rows) xs) k [] ≡ x.1.rows
state_there [] k x at = none≢some x at
state_there (y ∷ xs) zero x at = ap (λ (z : ℕ × Transfer). z.1.rows) (same_Some y x at)
state_there (y ∷ xs) (suc k) x at = state_there xs k x at

pub no_state : (xs : List (ℕ × Transfer)) (k : ℕ) → length xs ≤ k → get_or (map (λ y. y.1.rows) xs) k [] ≡ []
no_state [] k past = refl
no_state (y ∷ xs) zero past = absurd (omega (arith, past))
no_state (y ∷ xs) (suc k) past = no_state xs k (omega (arith, past))

pub row_there : (rows : List Versioned) (row : ℕ) (v : Versioned) → slice_get rows row ≡ Some v → transferred_table rows
    row ≡ v
row_there [] row v at = none≢some v at
row_there (w ∷ rows) zero v at = same_Some w v at
row_there (w ∷ rows) (suc row) v at = row_there rows row v at

-- past the end it has nothing
pub no_row : (rows : List Versioned) (row : ℕ) → length rows ≤ row
    → transferred_table rows row ≡ record { version = 0; value = pos 0 }
no_row [] row past = refl
no_row (w ∷ rows) zero past = absurd (omega (arith, past))
no_row (w ∷ rows) (suc row) past = no_row rows row (omega (arith, past))
