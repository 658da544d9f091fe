-- Public: other crates cite these lemmas. Places of lists at which something holds, of what stands before and of what
-- stands there.
use Rattle.std.proofs.Common.{◌≡◌, ℕ, ◌+◌, ◌≤◌, List, [], ◌∷◌, ◌++◌, length}
use Rattle.std.proofs.Common.{refl, sym, ap, subst, inl, inr, ◌⊎◌, arith}
use Rattle.std.proofs.lemmas.List.{append-nil, length-append}
use Rattle.std.specs.List.{flat_map}
use Rattle.eve_grammar.specs.Spelling.{located}
use Rattle.eve_views.specs.Form.{SomePlace}

pub place_here : {A : Type 0} (P : List A → A → Type 0) (x : A) (xs : List A) → P [] x → SomePlace (x ∷ xs) P
place_here P x xs h = record { before = []; item = x; rest = xs; is = refl; holds = h }

pub place_later : {A : Type 0} (P : List A → A → Type 0) (x : A) (xs : List A) → SomePlace xs (λ b y. P (x ∷ b) y)
    → SomePlace (x ∷ xs) P
place_later {A = A} P x xs place =
    record {
      before = x ∷ place.before;
      item = place.item;
      rest = place.rest;
      is = ap (λ (ys : List A). x ∷ ys) place.is;
      holds = place.holds;
    }

pub no_place : {A : Type 0} (P : List A → A → Type 0) → SomePlace [] P → ⊥
no_place {A = A} P place = by place.before place.is
  where
    by : (b : List A) → ◌≡◌ {A = List A} [] (b ++ place.item ∷ place.rest) → ⊥
    by [] e = cc
    by (x ∷ b) e = cc

pub place_cases : {A : Type 0} (P : List A → A → Type 0) (x : A) (xs : List A) → SomePlace (x ∷ xs) P → P [] x
    ⊎ SomePlace xs (λ b y. P (x ∷ b) y)
place_cases {A = A} P x xs place = by place.before place.is place.holds
  where
    first : (y z : A) (ys zs : List A) → ◌≡◌ {A = List A} (y ∷ ys) (z ∷ zs) → y ≡ z
    first y z ys zs e = cc

    others : (y z : A) (ys zs : List A) → ◌≡◌ {A = List A} (y ∷ ys) (z ∷ zs) → ys ≡ zs
    others y z ys zs e = cc

    by : (b : List A) → ◌≡◌ {A = List A} (x ∷ xs) (b ++ place.item ∷ place.rest) → P b place.item → P [] x
        ⊎ SomePlace xs (λ b y. P (x ∷ b) y)
    by [] e h = inl (subst (P []) (sym (first x place.item xs place.rest e)) h)
    by (z ∷ b) e h =
        inr (record {
          before = b;
          item = place.item;
          rest = place.rest;
          is = others x z xs (b ++ place.item ∷ place.rest) e;
          holds = subst (λ (w : A). P (w ∷ b) place.item) (sym (first x z xs (b ++ place.item ∷ place.rest) e)) h;
        })

-- in the prefix, or after it
pub place_split : {A : Type 0} (P : List A → A → Type 0) (xs ys : List A) → SomePlace (xs ++ ys) P → SomePlace xs P
    ⊎ SomePlace ys (λ b y. P (xs ++ b) y)
place_split P [] ys place = inr place
place_split P (x ∷ xs) ys place = elim (place_cases P x (xs ++ ys) place) [
  | inl here ↦ inl (place_here P x xs here)
  | inr there ↦ elim (place_split (λ b y. P (x ∷ b) y) xs ys there) [
    | inl prefix ↦ inl (place_later P x xs prefix)
    | inr back ↦ inr back
  ]
]

pub place_push : {A : Type 0} (P : List A → A → Type 0) (xs : List A) (x : A) → SomePlace (xs ++ x ∷ []) P
    → SomePlace xs P ⊎ P xs x
place_push {A = A} P xs x place = elim (place_split P xs (x ∷ []) place) [
  | inl prefix ↦ inl prefix
  | inr back ↦ elim (place_cases (λ b y. P (xs ++ b) y) x [] back) [
    | inl here ↦ inr (subst (λ (b : List A). P b x) (append-nil xs) here)
    | inr there ↦ absurd (no_place _ there)
  ]
]

pub weaker_place : {A : Type 0} (P Q : List A → A → Type 0) (xs : List A) → ((b : List A) (y : A) → P b y → Q b y)
    → SomePlace xs P → SomePlace xs Q
weaker_place P Q xs weaker place =
    record {
      before = place.before;
      item = place.item;
      rest = place.rest;
      is = place.is;
      holds = weaker place.before place.item place.holds;
    }

-- ---- offsets

-- each offset is up to those after it
abbrev pub Rising : {A : Type 0} → ℕ → List (ℕ × A) → Type 0
Rising low [] = Unit {0}
Rising low (x ∷ xs) = (low ≤ x.0) × Rising x.0 xs

pub rising_from : {A : Type 0} (low high : ℕ) (xs : List (ℕ × A)) → low ≤ high → Rising high xs → Rising low xs
rising_from low high [] le rises = tt
rising_from low high (x ∷ xs) le rises = (omega (arith, rises.0), rises.1)

pub located_rising : {A : Type 0} (text : A → List ℕ) (at : ℕ) (xs : List A) → Rising at (located text at xs)
located_rising text at [] = tt
located_rising text at (x ∷ xs) = (
  omega arith,
  rising_from at (at + length (text x)) (located text (at + length (text x)) xs) (omega arith)
      (located_rising text (at + length (text x)) xs),
)

rising_behind : {A : Type 0} (low : ℕ) (xs ys : List (ℕ × A)) → Rising low (xs ++ ys) → Rising low ys
rising_behind low [] ys rises = rises
rising_behind low (x ∷ xs) ys rises = rising_from low x.0 ys rises.0 (rising_behind x.0 xs ys rises.1)

-- at a place whose offset this is
abbrev pub At : {A : Type 0} → ℕ → (List (ℕ × A) → ℕ × A → Type 0) → List (ℕ × A) → ℕ × A → Type 0
At at Q b y = (y.0 ≡ at) × Q b y

pub from_low : {A : Type 0} (Q : List (ℕ × A) → ℕ × A → Type 0) (low at : ℕ) (xs : List (ℕ × A)) → Rising low xs
    → SomePlace xs (At at Q) → low ≤ at
from_low Q low at [] rises place = absurd (no_place _ place)
from_low Q low at (x ∷ xs) rises place = elim (place_cases (At at Q) x xs place) [
  | inl here ↦ let e : x.0 ≡ at = here.0 in let le : low ≤ x.0 = rises.0 in omega arith
  | inr there ↦ let le : low ≤ x.0 = rises.0 in let more = from_low (λ b y. Q (x ∷ b) y) x.0 at xs rises.1 there in
      omega arith
]

-- where it holds nowhere before, it holds first there
pub first_place : {A : Type 0} (Q : List (ℕ × A) → ℕ × A → Type 0) (low at : ℕ) (prefix : List (ℕ × A)) (x : ℕ × A)
    (back : List (ℕ × A)) → Rising low (prefix ++ x ∷ back)
    → (SomePlace prefix Q → ⊥) → SomePlace (prefix ++ x ∷ back) (At at Q) → x.0 ≤ at
first_place Q low at prefix x back rises none place = elim (place_split (At at Q) prefix (x ∷ back) place) [
  | inl before ↦ absurd (none (weaker_place (At at Q) Q prefix (λ b y h. h.1) before))
  | inr behind ↦ from_low (λ b y. Q (prefix ++ b) y) x.0 at (x ∷ back)
      (omega arith, (rising_behind low prefix (x ∷ back) rises).1) behind
]

-- nothing located lies past the end
pub located_within : {A : Type 0} (Q : List (ℕ × A) → ℕ × A → Type 0) (text : A → List ℕ) (at to : ℕ) (xs : List A)
    → SomePlace (located text at xs) (At to Q) → to ≤ at + length (flat_map text xs)
located_within Q text at to [] place = absurd (no_place _ place)
located_within Q text at to (x ∷ xs) place =
    elim (place_cases (At to Q) (at, x) (located text (at + length (text x)) xs) place) [
      | inl here ↦ let e : at ≡ to = here.0 in omega arith
      | inr there ↦
          let more = located_within (λ b y. Q ((at, x) ∷ b) y) text (at + length (text x)) to xs there in
          omega (arith, more, length-append (text x) (flat_map text xs))
    ]
