-- A change more at the end of a list of changes.
use Rattle.std.proofs.Common.{◌≡◌, ℕ, zero, suc, ◌==◌, Bool, true, false, cond, ◌&&◌, List, [], ◌∷◌, ◌++◌}
use Rattle.std.proofs.Common.{length, get_or, set, refl, ap, arith}
use Rattle.eve_chains.specs.declared.changed.Changed.{Changed}
use Rattle.eve_chains.specs.Changes.{with_change}

-- of the same batch and row
abbrev pub is_of_same : Changed → Changed → Bool
is_of_same x c = (x.number == c.number) && (x.row == c.row)

-- the last is of the same batch and row
pub changed_again : (cs : List Changed) (c : Changed) (i : ℕ) → length cs ≡ suc i → is_of_same (get_or cs i c) c ≡ true
    → with_change cs c ≡ set cs i c
changed_again [] c i many same = absurd (omega arith)
changed_again (x ∷ []) c zero many same = ap (λ (b : Bool). cond b (c ∷ []) (x ∷ c ∷ [])) same
changed_again (x ∷ []) c (suc i) many same = absurd (omega arith)
changed_again (x ∷ y ∷ xs) c zero many same = absurd (omega arith)
changed_again (x ∷ y ∷ xs) c (suc i) many same =
    ap (λ (zs : List Changed). x ∷ zs) (changed_again (y ∷ xs) c i (omega arith) same)

-- the last is of another
pub changed_anew : (cs : List Changed) (c : Changed)
    → ((i : ℕ) → length cs ≡ suc i → is_of_same (get_or cs i c) c ≡ false) → with_change cs c ≡ cs ++ c ∷ []
changed_anew [] c other = refl
changed_anew (x ∷ []) c other = ap (λ (b : Bool). cond b (c ∷ []) (x ∷ c ∷ [])) (other 0 refl)
changed_anew (x ∷ y ∷ xs) c other =
    ap (λ (zs : List Changed). x ∷ zs) (changed_anew (y ∷ xs) c (λ i many. other (suc i) (ap suc many)))
