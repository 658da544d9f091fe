-- What a test finds in a list that tells whether two keys are the same.
use Rattle.std.proofs.Common.{◌≡◌, zero, suc, Bool, true, false, List, [], ◌∷◌, ◌++◌, Contains, inl, inr, refl, sym}
use Rattle.std.proofs.Common.{◌∙◌, arith}
use Rattle.std.specs.Prelude.{◌||◌, if◌then◌else◌}
use Rattle.std.specs.List.{list_any}
use Rattle.std.proofs.lemmas.Bool.{or_left, or_right, cases_Bool, false≢true}
use Rattle.std.proofs.lemmas.List.Folds.{list_any-append}

last_or : (same old : Bool) → (if same then true else old) ≡ (old || (same || false))
last_or true true = refl
last_or true false = refl
last_or false true = refl
last_or false false = refl

module _ {A : Type 0} (same : A → A → Bool) (true_is : (x y : A) → same x y ≡ true → x ≡ y)
    (itself : (x y : A) → x ≡ y → same x y ≡ true) where
  -- a key of the list is found
  pub found : (xs : List A) (x : A) → Contains xs x → list_any (same x) xs ≡ true
  found [] x (k, there, is) = absurd (omega arith)
  found (y ∷ xs) x (zero, there, is) = or_left (same x y) (list_any (same x) xs) (itself x y (sym is))
  found (y ∷ xs) x (suc k, there, is) =
      or_right (same x y) (list_any (same x) xs) (found xs x (k, omega arith, is))

  back : (x y : A) → same x y ≡ same y x
  back x y =
      elim (cases_Bool (same x y)) [
        | inl here ↦ here ∙ sym (itself y x (sym (true_is x y here)))
        | inr other ↦
            elim (cases_Bool (same y x)) [
              | inl there ↦ absurd (false≢true (sym other ∙ itself x y (sym (true_is y x there))))
              | inr also ↦ other ∙ sym also
            ]
      ]

  -- what is found with one key more
  pub found_more : (xs : List A) (x other : A) (new old : Bool) → new ≡ (if same x other then true else old)
      → old ≡ list_any (same other) xs → new ≡ list_any (same other) (xs ++ x ∷ [])
  found_more xs x other new old is was =
      is ∙ (λ k. if back x other k then true else was k) ∙ last_or (same other x) (list_any (same other) xs)
      ∙ sym (list_any-append (same other) xs (x ∷ []))
