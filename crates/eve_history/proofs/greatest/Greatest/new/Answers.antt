use Rattle.std.proofs.Common.{◌≡◌, ℕ, zero, suc, List, [], Option, None, Some, get_or, nat_eq, replicate, refl, ap}
use Rattle.std.proofs.Common.{◌∙◌}
use Rattle.std.specs.HashMap.{HashMap, get}
use Rattle.eve_history.proofs.greatest.Greatest.new.Goals as goal

-- what holds of None alone
only_none : (P : Option ℕ → Type 0) → ((n : ℕ) → ¬ P (Some n)) → (o : Option ℕ) → P o → o ≡ None
only_none P none None here = refl
only_none P none (Some n) here = absurd (none n here)

-- where the table holds none, and none is behind it, there is none at any place
none_at : (n client : ℕ) (other : Option ℕ) → other ≡ None → get_or (replicate n None) client other ≡ None
none_at zero client other none = none
none_at (suc n) zero other none = refl
none_at (suc n) (suc client) other none = none_at n client other none

no_client : {S : Type 0} (first : List (Option ℕ)) (others : HashMap ℕ ℕ S) (n client : ℕ) → first ≡ replicate n None
    → others.entries ≡ [] → get_or first client (get nat_eq others client) ≡ None
no_client first others n client all empty =
    let nothing : get nat_eq others client ≡ None = rw empty refl in
    ap (λ (xs : List (Option ℕ)). get_or xs client (get nat_eq others client)) all
    ∙ none_at n client (get nat_eq others client) nothing

pub returns : goal.returns
returns c = λ client.
    no_client c.in_ok-vec.field-0.items c.with_hasher.result 4096 client
    (c.in_ok-vec.ensures.items_if_clones_equal (only_none _ (λ _ clone. clone))) c.with_hasher.ensures.empty
