-- Lists read as functions of a place.
use Rattle.std.proofs.Common.{◌≡◌, ℕ, ◌<◌, ◌==◌, List, [], ◌∷◌, ◌++◌, map, length, get_or, set, replicate, Result, Ok}
use Rattle.std.proofs.Common.{Err, OnErr, sym, ap, ◌∙◌, inl, inr, arith}
use mathlib.Core.Path.{fun_ext}
use Rattle.std.proofs.lemmas.Bool.{cases_eq, cases_lt, eq-eqb, ne_eqb, cond-true, cond-false}
use Rattle.std.proofs.lemmas.Grind.{get_or-set_at}
use Rattle.std.proofs.lemmas.List.{get_or-set_other, get_or-replicate, get_or_past, length-replicate, map-set}
use Rattle.std.proofs.lemmas.List.{get_or-map}
use Rattle.eve_stamps_schedule.specs.Events.{changed}

-- a list with another item reads as the function with another value
pub changed_at : {A : Type 0} (xs : List A) (i : ℕ) (x d : A) → i < length xs
    → ◌≡◌ {A = ℕ → A} (λ j. get_or (set xs i x) j d) (changed (λ j. get_or xs j d) i x)
changed_at xs i x d within =
    fun_ext (λ j. elim (cases_eq j i) [
      | inl same ↦ get_or-set_at xs i j x d same within ∙ sym (cond-true (j == i) x (get_or xs j d) (eq-eqb j i same))
      | inr other ↦ get_or-set_other xs i j x d other ∙ sym (cond-false (j == i) x (get_or xs j d) (ne_eqb j i other))
    ])

-- copies of what is read past the end
pub all_alike : {A : Type 0} (n : ℕ) (d : A) → ◌≡◌ {A = ℕ → A} (λ j. get_or (replicate n d) j d) (λ j. d)
all_alike n d =
    fun_ext (λ j. elim (cases_lt j n) [
      | inl within ↦ get_or-replicate n j d d within
      | inr past ↦ get_or_past (replicate n d) j d (let long = length-replicate n d in omega arith)
    ])

-- a list in a list of lists gets one item more, or stays
pub appended_at : {V A : Type 0} (f : V → List A) (xs : List V) (i : ℕ) (v d : V) (x : A) → i < length xs
    → f v ≡ f (get_or xs i d) ++ x ∷ []
    → map f (set xs i v) ≡ set (map f xs) i (get_or (map f xs) i [] ++ x ∷ [])
appended_at {V} {A} f xs i v d x within same =
    let none : List A = [] in
    map-set f xs i v ∙ ap (set (map f xs) i)
    (same ∙ ap (λ (l : List A). l ++ x ∷ []) (sym (get_or-map f xs i d none within)))

pub on_err : {T E : Type 0} (r : Result T E) (P : Type 0) → P → OnErr r P
on_err (Ok x) P p = tt
on_err (Err e) P p = p
