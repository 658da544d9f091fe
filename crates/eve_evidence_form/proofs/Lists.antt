-- Lists: bytes that are the same, what a list contains; prefixes; and options.
use Rattle.std.proofs.Common.{◌≡◌, ◌≢◌, ℕ, zero, suc, ◌≤◌, true, false}
use Rattle.std.proofs.Common.{List, [], ◌∷◌, Option, Some, None, length, map, take, drop, refl}
use Rattle.std.proofs.Common.{sym, ap, subst, ◌∙◌, arith}
use Rattle.std.specs.Prelude.{Contains, IfSome, IfNone, nat_eq}
use Rattle.std.specs.List.{AllByRecursion}
use Rattle.std.specs.Cmp.Lexicographic.{pointwise}
use Rattle.std.proofs.lemmas.Bool.{and_parts, and_from, eq-eqb, eqb-true, false≢true}
use Rattle.std.proofs.lemmas.List.{length-drop, take_all}

-- ---- bytes

itself : (xs : List ℕ) → pointwise nat_eq xs xs ≡ true
itself [] = refl
itself (x ∷ xs) = and_from (nat_eq x x) (pointwise nat_eq xs xs) (eq-eqb x x refl) (itself xs)

pub same_bytes : (xs ys : List ℕ) → pointwise nat_eq xs ys ≡ true → xs ≡ ys
same_bytes [] [] e = refl
same_bytes [] (y ∷ ys) e = absurd (false≢true e)
same_bytes (x ∷ xs) [] e = absurd (false≢true e)
same_bytes (x ∷ xs) (y ∷ ys) e =
    let parts = and_parts (nat_eq x y) (pointwise nat_eq xs ys) e in
    λ i. eqb-true x y parts.0 i ∷ same_bytes xs ys parts.1 i

pub other_bytes : (xs ys : List ℕ) → pointwise nat_eq xs ys ≡ false → xs ≢ ys
other_bytes xs ys e = λ same.
    let yes : pointwise nat_eq xs ys ≡ true = subst (λ (zs : List ℕ). pointwise nat_eq xs zs ≡ true) same (itself xs) in
    false≢true (sym e ∙ yes)

-- ---- what a list contains

-- what a list contains, not all of it differs from
pub not_all_other : {A B : Type 0} (f : A → B) (xs : List A) (y : B) → Contains (map f xs) y
    → AllByRecursion (λ x. f x ≢ y) xs → ⊥
not_all_other f [] y (k, lt, e) all = absurd (omega arith)
not_all_other f (x ∷ xs) y (zero, lt, e) all = all.0 e
not_all_other f (x ∷ xs) y (suc k, lt, e) all = not_all_other f xs y (k, omega arith, e) all.1

-- ---- prefixes

all_prefix : {A : Type 0} (P : A → Type 0) (xs : List A) (n : ℕ) → AllByRecursion P xs → AllByRecursion P (take n xs)
all_prefix P xs zero all = tt
all_prefix P [] (suc n) all = tt
all_prefix P (x ∷ xs) (suc n) all = (all.0, all_prefix P xs n all.1)

-- of a shorter prefix
pub all_before : {A : Type 0} (P : A → Type 0) (xs : List A) (n i : ℕ) → n ≤ i → AllByRecursion P (take i xs)
    → AllByRecursion P (take n xs)
all_before P xs zero i le all = tt
all_before P xs (suc n) zero le all = absurd (omega arith)
all_before P [] (suc n) (suc i) le all = tt
all_before P (x ∷ xs) (suc n) (suc i) le all = (all.0, all_before P xs n i (omega arith) all.1)

-- and of any, where all of the list has it
pub all_before_end : {A : Type 0} (P : A → Type 0) (xs : List A) (n i : ℕ) → length xs ≤ i
    → AllByRecursion P (take i xs)
    → AllByRecursion P (take n xs)
all_before_end P xs n i le all = all_prefix P xs n (subst (AllByRecursion P) (take_all i xs le) all)

-- where nothing is left, the end was reached
pub none_left : {A : Type 0} (xs : List A) (i : ℕ) → drop i xs ≡ [] → length xs ≤ i
none_left xs i e = omega (arith, ap length e, length-drop i xs)

-- ---- options

pub some_is : {A : Type 0} (o : Option A) (P : A → Type 0) (x : A) → o ≡ Some x → IfSome o P → P x
some_is {A} o P x is shown = subst (λ (p : Option A). IfSome p P) is shown

pub none_is : {A : Type 0} (o : Option A) (P : Type 0) → o ≡ None → IfNone o P → P
none_is {A} o P is shown = subst (λ (p : Option A). IfNone p P) is shown
