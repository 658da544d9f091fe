-- Public: other crates cite these lemmas. Members of a list, and lists in another order.
use Rattle.std.proofs.Common.{◌≡◌, Bool, true, false, List, [], ◌∷◌, ◌++◌, map, refl, sym, subst, ap, ◌∙◌, ◌⊎◌, inl}
use Rattle.std.proofs.Common.{inr}
use Rattle.std.specs.List.{AllByRecursion, list_all, list_any}
use Rattle.std.proofs.lemmas.Bool.{and_parts, or_from, or_parts}
use Rattle.std.proofs.lemmas.List.{map-append}
use Rattle.eve_smallbank.specs.Conflict.{IsReordering}

pub data In {A : Type 0} : A → List A → Type 0 where
  here : {x : A} {xs : List A} → In x (x ∷ xs)
  there : {x y : A} {xs : List A} → In x xs → In x (y ∷ xs)

pub all_in : {A : Type 0} (P : A → Type 0) {x : A} {xs : List A} → AllByRecursion P xs → In x xs → P x
all_in P all here = all.0
all_in P all (there i) = all_in P all.1 i

pub all_from_in : {A : Type 0} (P : A → Type 0) (xs : List A) → ((x : A) → In x xs → P x) → AllByRecursion P xs
all_from_in P [] h = tt
all_from_in P (x ∷ xs) h = (h x here, all_from_in P xs (λ y i. h y (there i)))

-- no member passes
pub list_any-none : {A : Type 0} (p : A → Bool) (xs : List A) → ((x : A) → In x xs → p x ≡ false) → list_any p xs
    ≡ false
list_any-none p [] h = refl
list_any-none p (x ∷ xs) h = or_from (p x) (list_any p xs) (h x here) (list_any-none p xs (λ y i. h y (there i)))

pub none_of_list_any : {A : Type 0} {x : A} (p : A → Bool) (xs : List A) → list_any p xs ≡ false → In x xs → p x ≡ false
none_of_list_any p [] h i = elim i [ ]
none_of_list_any p (x ∷ xs) h here = (or_parts (p x) (list_any p xs) h).0
none_of_list_any p (y ∷ xs) h (there i) = none_of_list_any p xs (or_parts (p y) (list_any p xs) h).1 i

-- what all pass, each member does
pub all_of_list_all : {A : Type 0} {x : A} (p : A → Bool) (xs : List A) → list_all p xs ≡ true → In x xs → p x ≡ true
all_of_list_all p [] h i = elim i [ ]
all_of_list_all p (x ∷ xs) h here = (and_parts (p x) (list_all p xs) h).0
all_of_list_all p (y ∷ xs) h (there i) = all_of_list_all p xs (and_parts (p y) (list_all p xs) h).1 i

-- the first, or one after it
pub in_cons : {A : Type 0} {z y : A} (xs : List A) → In z (y ∷ xs) → (z ≡ y) ⊎ In z xs
in_cons xs here = inl refl
in_cons xs (there i) = inr i

pub in_prefix : {A : Type 0} {x : A} {xs : List A} (ys : List A) → In x xs → In x (xs ++ ys)
in_prefix ys here = here
in_prefix ys (there i) = there (in_prefix ys i)

pub in_middle : {A : Type 0} (x : A) (prefix back : List A) → In x (prefix ++ x ∷ back)
in_middle x [] back = here
in_middle x (y ∷ prefix) back = there (in_middle x prefix back)

-- one more element in the middle
pub in_around : {A : Type 0} {z : A} (x : A) (prefix back : List A) → In z (prefix ++ back) → In z (prefix ++ x ∷ back)
in_around x [] back i = there i
in_around x (y ∷ prefix) back here = here
in_around x (y ∷ prefix) back (there i) = there (in_around x prefix back i)

pub in_after : {A : Type 0} {z : A} (xs ys : List A) → IsReordering xs ys → In z xs → In z ys
in_after [] ys r i = elim i [ ]
in_after {A} {z} (x ∷ xs) ys r here = subst (In z) (sym r.2) (in_middle z r.0 r.1)
in_after {A} {z} (x ∷ xs) ys r (there i) = subst (In z) (sym r.2) (in_around x r.0 r.1 (in_after xs (r.0 ++ r.1) r.3 i))

pub in_cases : {A : Type 0} {z : A} (x : A) (prefix back : List A) → In z (prefix ++ x ∷ back) → (z ≡ x)
    ⊎ In z (prefix ++ back)
in_cases x [] back here = inl refl
in_cases x [] back (there i) = inr i
in_cases x (y ∷ prefix) back here = inr here
in_cases x (y ∷ prefix) back (there i) = elim (in_cases x prefix back i) [ inl e ↦ inl e | inr j ↦ inr (there j) ]

pub in_before : {A : Type 0} {z : A} (xs ys : List A) → IsReordering xs ys → In z ys → In z xs
in_before {A} {z} [] ys r i = subst (In z) r i
in_before {A} {z} (x ∷ xs) ys r i =
    elim (in_cases x r.0 r.1 (subst (In z) r.2 i)) [
      | inl e ↦ subst (λ y. In y (x ∷ xs)) (sym e) here
      | inr j ↦ there (in_before xs (r.0 ++ r.1) r.3 j)
    ]

pub reordering_map : {A B : Type 0} (f : A → B) (xs ys : List A) → IsReordering xs ys
    → IsReordering (map f xs) (map f ys)
reordering_map f [] ys r = ap (map f) r
reordering_map f (x ∷ xs) ys r = (
  map f r.0,
  map f r.1,
  ap (map f) r.2 ∙ map-append f r.0 (x ∷ r.1),
  subst (IsReordering (map f xs)) (map-append f r.0 r.1) (reordering_map f xs (r.0 ++ r.1) r.3),
)
