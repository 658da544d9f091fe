-- Two lists side by side: one more of each, one changed, the last of each.
use Rattle.std.proofs.Common.{◌≡◌, ℕ, zero, suc, ◌+◌, ◌<◌, ap, ◌∙◌, List, [], ◌∷◌, ◌++◌, length, get_or, set, take}
use Rattle.std.proofs.Common.{drop, map, subst, sym, arith}
use Rattle.std.specs.List.{AllZip}
use Rattle.std.specs.Prelude.{remove}
use Rattle.std.proofs.lemmas.List.{drop_more, take_more}
use Rattle.std.proofs.lemmas.Slice.Zip.{all_zipped_more}

pub zip_more : {A B : Type 0} (R : A → B → Type 0) (xs : List A) (ys : List B) (i : ℕ) (x : A) (y : B)
    → i < length xs → x ≡ get_or xs i x → AllZip R (take i xs) ys → R x y
    → AllZip R (take (i + 1) xs) (ys ++ y ∷ [])
zip_more R xs ys i x y there is all own =
    subst (λ l. AllZip R l (ys ++ y ∷ []))
    (ap (λ z. take i xs ++ z ∷ []) is ∙ sym (take_more xs i x there))
    (all_zipped_more R (take i xs) ys x y all own)

-- what stands at a place of the second list goes with what stands there in the first
pub zip_at : {A B : Type 0} (R : A → B → Type 0) (xs : List A) (ys : List B) (i : ℕ) (x : A) (y : B)
    → AllZip R xs ys → i < length xs → x ≡ get_or xs i x → y ≡ get_or ys i y → R x y
zip_at R [] ys i x y all there is same = let no : ⊥ = omega arith in absurd no
zip_at R (a ∷ xs) [] i x y all there is same = absurd all
zip_at R (a ∷ xs) (b ∷ ys) zero x y all there is same =
    subst (λ z. R z y) (sym is) (subst (R a) (sym same) all.0)
zip_at R (a ∷ xs) (b ∷ ys) (suc i) x y all there is same = zip_at R xs ys i x y all.1 (omega arith) is same

-- and may be changed to another that does
pub zip_set : {A B : Type 0} (R : A → B → Type 0) (xs : List A) (ys : List B) (i : ℕ) (x : A) (y : B)
    → AllZip R xs ys → x ≡ get_or xs i x → R x y → AllZip R xs (set ys i y)
zip_set R [] [] i x y all is own = all
zip_set R [] (b ∷ ys) i x y all is own = absurd all
zip_set R (a ∷ xs) [] i x y all is own = absurd all
zip_set R (a ∷ xs) (b ∷ ys) zero x y all is own = (subst (λ z. R z y) is own, all.1)
zip_set R (a ∷ xs) (b ∷ ys) (suc i) x y all is own = (all.0, zip_set R xs ys i x y all.1 is own)

-- the first of those that are left go together, and so do those after them
pub zip_next : {A B : Type 0} (R : A → B → Type 0) (xs : List A) (ys : List B) (i : ℕ) (x : A) (y : B)
    → i < length xs → x ≡ get_or xs i x → y ≡ get_or ys 0 y → AllZip R (drop i xs) ys
    → R x y × AllZip R (drop (i + 1) xs) (remove ys 0)
zip_next R xs [] i x y there is same all =
    let e = drop_more xs i x there in absurd (subst (λ l. AllZip R l []) e all)
zip_next R xs (b ∷ ys) i x y there is same all =
    let e = drop_more xs i x there ∙ ap (λ z. z ∷ drop (i + 1) xs) (sym is) in
    let both = subst (λ l. AllZip R l (b ∷ ys)) e all in
    (subst (R x) (sym same) both.0, both.1)

pub zip_first : {A B : Type 0} (R : A → B → Type 0) (xs : List A) (ys : List B) (x : A) (y : B)
    → 0 < length xs → x ≡ get_or xs 0 x → y ≡ get_or ys 0 y → AllZip R xs ys
    → R x y × AllZip R (remove xs 0) (remove ys 0)
zip_first R [] ys x y there is same all = let no : ⊥ = omega arith in absurd no
zip_first R (a ∷ xs) [] x y there is same all = absurd all
zip_first R (a ∷ xs) (b ∷ ys) x y there is same all =
    (subst (λ z. R z y) (sym is) (subst (R a) (sym same) all.0), all.1)

-- what is left without its first
pub drop_next : {A : Type 0} (xs left : List A) (i : ℕ) (x : A) → i < length xs → left ≡ drop i xs
    → x ≡ get_or left 0 x → (x ≡ get_or xs i x) × (remove left 0 ≡ drop (i + 1) xs)
drop_next xs left i x there rest is =
    let e = rest ∙ drop_more xs i x there in
    (is ∙ ap (λ l. get_or l 0 x) e, ap (λ l. remove l 0) e)

-- and what is said of each may be weaker
pub zip_weaker : {A B : Type 0} (R Q : A → B → Type 0) (xs : List A) (ys : List B)
    → ((x : A) (y : B) → R x y → Q x y) → AllZip R xs ys → AllZip Q xs ys
zip_weaker R Q [] [] gives all = all
zip_weaker R Q [] (b ∷ ys) gives all = absurd all
zip_weaker R Q (a ∷ xs) [] gives all = absurd all
zip_weaker R Q (a ∷ xs) (b ∷ ys) gives all = (gives a b all.0, zip_weaker R Q xs ys gives all.1)
