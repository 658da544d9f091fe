-- Public: other crates cite these lemmas. What `nth` gives, of an iterator that gives the values of a list.
use Rattle.std.proofs.Common.{◌≡◌, ℕ, suc, List, [], ◌∷◌, length, Some, ap, subst, ◌∙◌}
use Rattle.std.specs.Prelude.{slice_get}
use Rattle.std.specs.Iterator.{YieldsFirstBy, Yields, SkipsThenYields}

-- what is left after values that were passed over
skipped : {A B : Type 0} (view : A → B) (xs : List A) (s t u : List B) (x : A)
    → Yields (YieldsFirstBy view (λ rest. rest)) s xs t → t ≡ view x ∷ u → slice_get s (length xs) ≡ Some (view x)
skipped view [] s t u x e f = ap (λ l. slice_get l 0) (e ∙ f)
skipped view (y ∷ ys) s t u x e f = ap (λ l. slice_get l (suc (length ys))) e.1 ∙ skipped view ys e.0 t u x e.2 f

-- what `nth` gave is the n-th of what was left
pub nth_is : {A B : Type 0} (view : A → B) (s u : List B) (n : ℕ) (x : A)
    → SkipsThenYields (YieldsFirstBy view (λ rest. rest)) s n (Some x) u → slice_get s n ≡ Some (view x)
nth_is view s u n x ran = subst (λ (k : ℕ). slice_get s k ≡ Some (view x)) ran.2
    (skipped view ran.0 s ran.1.0 u x ran.1.1 ran.1.2)
