-- Public: other crates cite these lemmas. Lists at one of their places, and what a test of an option says.
use Rattle.std.proofs.Common.{◌≡◌, ℕ, zero, suc, ◌+◌, ◌<◌, ◌≤◌, List, [], ◌∷◌, ◌++◌, length, take, drop, slice_get, map}
use Rattle.std.proofs.Common.{inl, inr, Option, false, is_some, Some, None, refl, sym, ap, subst, ◌∙◌, arith}
use Rattle.std.specs.List.{AllByRecursion}
use Rattle.std.specs.Option.{option_map}
use Rattle.std.proofs.lemmas.Option.{slice_get-map}
use Rattle.std.specs.Prelude.{IfSome, IfNone}
use Rattle.std.proofs.lemmas.Bool.{false≢true}
use Rattle.std.proofs.lemmas.List.{take-append-drop}
use Rattle.eve_grammar.proofs.Lists.{drop_here, take_one_more, all-push, item_within}
use Rattle.eve_views.specs.Form.{SomePlace}
use Rattle.eve_history.proofs.Places.{no_place, place_cases, place_push}

-- ---- prefixes

-- what holds of all of a prefix, and of the next
pub all_more : {A : Type 0} (P : A → Type 0) (xs : List A) (i : ℕ) (x : A) → slice_get xs i ≡ Some x
    → AllByRecursion P (take i xs) → P x → AllByRecursion P (take (i + 1) xs)
all_more P xs i x got all own =
    subst (AllByRecursion P) (sym (take_one_more xs i x got)) (all-push P (take i xs) x all own)

-- what holds of all items holds of a prefix's
pub all-take : {A : Type 0} (P : A → Type 0) (n : ℕ) (xs : List A) → AllByRecursion P xs → AllByRecursion P (take n xs)
all-take P zero xs all = tt
all-take P (suc n) [] all = tt
all-take P (suc n) (x ∷ xs) all = (all.0, all-take P n xs all.1)

-- at this place of a list
pub place_at : {A : Type 0} (P : List A → A → Type 0) (xs : List A) (i : ℕ) (x : A) → slice_get xs i ≡ Some x
    → P (take i xs) x → SomePlace xs P
place_at P xs i x got holds = record {
  before = take i xs;
  item = x;
  rest = drop (i + 1) xs;
  is = sym (take-append-drop i xs) ∙ ap (λ ys. take i xs ++ ys) (drop_here xs i x got);
  holds = holds;
}

pub take-take : {A : Type 0} (i n : ℕ) (xs : List A) → i ≤ n → take i (take n xs) ≡ take i xs
take-take zero n xs le = refl
take-take (suc i) zero xs le = absurd (omega arith)
take-take (suc i) (suc n) [] le = refl
take-take (suc i) (suc n) (x ∷ xs) le = ap (λ ys. x ∷ ys) (take-take i n xs (omega arith))

pub get-take : {A : Type 0} (xs : List A) (i n : ℕ) → i < n → slice_get (take n xs) i ≡ slice_get xs i
get-take xs i zero lt = absurd (omega arith)
get-take [] i (suc n) lt = refl
get-take (x ∷ xs) zero (suc n) lt = refl
get-take (x ∷ xs) (suc i) (suc n) lt = get-take xs i n (omega arith)

-- and of a prefix of it
pub place_in_prefix : {A : Type 0} (P : List A → A → Type 0) (xs : List A) (n i : ℕ) (x : A) → i < n
    → slice_get xs i ≡ Some x → P (take i xs) x → SomePlace (take n xs) P
place_in_prefix P xs n i x lt got holds =
    place_at P (take n xs) i x (get-take xs i n lt ∙ got)
    (subst (λ ys. P ys x) (sym (take-take i n xs (omega arith))) holds)

-- ---- two lists beside each other

pub same_more : {A : Type 0} (xs ys : List A) (i : ℕ) (x y : A) → slice_get xs i ≡ Some x → slice_get ys i ≡ Some y
    → x ≡ y → take i xs ≡ take i ys → take (i + 1) xs ≡ take (i + 1) ys
same_more xs ys i x y got other same prefix =
    take_one_more xs i x got
    ∙ (λ j. prefix j ++ same j ∷ [])
    ∙ sym (take_one_more ys i y other)

-- ---- what a test of an option says

pub if_none : {A : Type 0} (o : Option A) (P : Type 0) → false ≡ is_some o → IfNone o P → P
if_none None P e p = p
if_none (Some x) P e p = absurd (false≢true e)

pub if_some : {A : Type 0} (o : Option A) (P Q : A → Type 0) → ((x : A) → P x → Q x) → IfSome o P → IfSome o Q
if_some None P Q to p = tt
if_some (Some x) P Q to p = to x p

pub get_mapped : {A B : Type 0} (f : A → B) (xs : List A) (i : ℕ) (x : A) → slice_get xs i ≡ Some x
    → slice_get (map f xs) i ≡ Some (f x)
get_mapped f xs i x got = slice_get-map f xs i ∙ ap (option_map f) got

-- ---- no place

pub no_place_of_all : {A : Type 0} (P : A → Type 0) (xs : List A) → AllByRecursion (λ x. ¬ P x) xs
    → SomePlace xs (λ _ x. P x) → ⊥
no_place_of_all P [] all place = no_place _ place
no_place_of_all P (x ∷ xs) all place = elim (place_cases (λ _ y. P y) x xs place) [
  | inl here ↦ all.0 here
  | inr there ↦ no_place_of_all P xs all.1 there
]

-- none among those before, nor at the next
pub no_place_more : {A : Type 0} (P : List A → A → Type 0) (xs : List A) (i : ℕ) (x : A) → slice_get xs i ≡ Some x
    → (SomePlace (take i xs) P → ⊥) → (P (take i xs) x → ⊥) → SomePlace (take (i + 1) xs) P → ⊥
no_place_more {A} P xs i x got none not_here place =
    let moved : SomePlace (take i xs ++ x ∷ []) P = subst (λ (ys : List A). SomePlace ys P) (take_one_more xs i x got)
    place
    in
    elim (place_push P (take i xs) x moved) [ inl prefix ↦ none prefix | inr here ↦ not_here here ]

pub item_there : {A : Type 0} (xs : List A) (i n : ℕ) → i < n → n ≡ length xs → (x : A) × (slice_get xs i ≡ Some x)
item_there xs i n lt e = item_within xs i (omega arith)

pub if_none_weaker : {A : Type 0} (o : Option A) (P Q : Type 0) → (P → Q) → IfNone o P → IfNone o Q
if_none_weaker None P Q to p = to p
if_none_weaker (Some x) P Q to p = tt
