-- Public: other crates cite these lemmas. Lists without repetition.
use Rattle.std.proofs.Common.{◌≡◌, ℕ, zero, suc, ◌≤◌, ◌<◌, nat_lt, ◌==◌, Bool, true, false, cond, List, [], ◌∷◌, ◌++◌}
use Rattle.std.proofs.Common.{map, length, refl, sym, subst, ap, ◌∙◌, inl, inr, ◌⊎◌, arith}
use Rattle.std.specs.Prelude.{⊤}
use Rattle.std.proofs.lemmas.Bool.{cases_lt, and_parts, eqb-true, eq-eqb, ltb-true, cond-true}
use Rattle.std.specs.List.{list_all}
use Rattle.eve_grammar.specs.Certificate.{occurrences, all_below, is_permutation}
use Rattle.eve_smallbank.proofs.Members.{In, here, there, in_prefix, in_middle, in_around, in_cons}
use Rattle.eve_chains.proofs.Permutations.{found}
use Rattle.eve_grammar.proofs.Orders.{all_below_at, none_above}

abbrev pub Distinct : {A : Type 0} → List A → Type 0
Distinct [] = ⊤
Distinct (x ∷ xs) = (In x xs → ⊥) × Distinct xs

-- ---- members

pub in_split : {A : Type 0} {z : A} (xs ys : List A) → In z (xs ++ ys) → In z xs ⊎ In z ys
in_split [] ys i = inr i
in_split (x ∷ xs) ys here = inl here
in_split (x ∷ xs) ys (there i) = elim (in_split xs ys i) [ inl j ↦ inl (there j) | inr j ↦ inr j ]

pub in_right : {A : Type 0} {z : A} (xs ys : List A) → In z ys → In z (xs ++ ys)
in_right [] ys i = i
in_right (x ∷ xs) ys i = there (in_right xs ys i)

pub in_map : {A B : Type 0} {z : A} (f : A → B) (xs : List A) → In z xs → In (f z) (map f xs)
in_map f [] i = elim i [ ]
in_map f (x ∷ xs) here = here
in_map f (x ∷ xs) (there i) = there (in_map f xs i)

-- what stands in the image, and of what
pub record Source {A B : Type 0} (f : A → B) (xs : List A) (y : B) : Type 0 where
  pub item : A
  pub there_is : In item xs
  pub is : y ≡ f item

pub in_source : {A B : Type 0} {y : B} (f : A → B) (xs : List A) → In y (map f xs) → Source f xs y
in_source f [] i = elim i [ ]
in_source f (x ∷ xs) here = record { item = x; there_is = here; is = refl }
in_source f (x ∷ xs) (there i) = let s = in_source f xs i in
    record { item = s.item; there_is = there s.there_is; is = s.is }

-- ---- distinct parts

pub distinct_left : {A : Type 0} (xs ys : List A) → Distinct (xs ++ ys) → Distinct xs
distinct_left [] ys d = tt
distinct_left (x ∷ xs) ys d = (λ i. d.0 (in_prefix ys i), distinct_left xs ys d.1)

pub distinct_right : {A : Type 0} (xs ys : List A) → Distinct (xs ++ ys) → Distinct ys
distinct_right [] ys d = d
distinct_right (x ∷ xs) ys d = distinct_right xs ys d.1

pub distinct_apart : {A : Type 0} {z : A} (xs ys : List A) → Distinct (xs ++ ys) → In z xs → In z ys → ⊥
distinct_apart [] ys d i j = elim i [ ]
distinct_apart (x ∷ xs) ys d here j = d.0 (in_right xs ys j)
distinct_apart (x ∷ xs) ys d (there i) j = distinct_apart xs ys d.1 i j

pub distinct_append : {A : Type 0} (xs ys : List A) → Distinct xs → Distinct ys → ((z : A) → In z xs → In z ys → ⊥)
    → Distinct (xs ++ ys)
distinct_append [] ys d k apart = k
distinct_append {A} (x ∷ xs) ys d k apart = (
  λ i. own (in_split xs ys i),
  distinct_append xs ys d.1 k (λ z i j. apart z (there i) j),
)
  where
    own : In x xs ⊎ In x ys → ⊥
    own (inl i) = d.0 i
    own (inr j) = apart x here j

distinct_middle : {A : Type 0} (x : A) (prefix back : List A) → Distinct (prefix ++ x ∷ back)
    → (In x (prefix ++ back) → ⊥)
    × Distinct (prefix ++ back)
distinct_middle x [] back d = d
distinct_middle {A} x (y ∷ prefix) back d =
    let rest = distinct_middle x prefix back d.1 in
    (λ i. other rest.0 (in_cons (prefix ++ back) i), (λ i. d.0 (in_around x prefix back i), rest.1))
  where
    other : (In x (prefix ++ back) → ⊥) → (x ≡ y) ⊎ In x (prefix ++ back) → ⊥
    other none (inl e) = d.0 (subst (λ z. In z (prefix ++ x ∷ back)) e (in_middle x prefix back))
    other none (inr i) = none i

pub distinct_map : {A B : Type 0} (f : A → B) (xs : List A) → ((x y : A) → In x xs → In y xs → f x ≡ f y → x ≡ y)
    → Distinct xs → Distinct (map f xs)
distinct_map f [] apart d = tt
distinct_map f (x ∷ xs) apart d = (
  λ i. let s = in_source f xs i in
      d.0 (subst (λ z. In z xs) (sym (apart x s.item here (there s.there_is) s.is)) s.there_is),
  distinct_map f xs (λ y z i j. apart y z (there i) (there j)) d.1,
)

-- ---- counts

pub occurs : (k : ℕ) (xs : List ℕ) → In k xs → 1 ≤ occurrences k xs
occurs k [] i = elim i [ ]
occurs k (x ∷ xs) here = subst (λ b. 1 ≤ cond b (suc (occurrences x xs)) (occurrences x xs)) (sym (eq-eqb x x refl))
    (omega arith)
occurs k (x ∷ xs) (there i) = more (x == k) (occurrences k xs) (occurs k xs i)
  where
    more : (b : Bool) (n : ℕ) → 1 ≤ n → 1 ≤ cond b (suc n) n
    more true n h = omega arith
    more false n h = h

distinct_counts : (xs : List ℕ) → ((i : ℕ) → occurrences i xs ≤ 1) → Distinct xs
distinct_counts [] once = tt
distinct_counts (x ∷ xs) once = (
  λ i. twice (occurrences x xs) (occurs x xs i)
      (subst (λ n. n ≤ 1) (cond-true (x == x) (suc (occurrences x xs)) (occurrences x xs) (eq-eqb x x refl)) (once x)),
  distinct_counts xs (λ i. fewer (x == i) (occurrences i xs) (once i)),
)
  where
    twice : (n : ℕ) → 1 ≤ n → suc n ≤ 1 → ⊥
    twice n h k = omega arith

    fewer : (b : Bool) (n : ℕ) → cond b (suc n) n ≤ 1 → n ≤ 1
    fewer true n h = omega arith
    fewer false n h = h

pub distinct_permutation : (r : ℕ) (order : List ℕ) → is_permutation r order ≡ true → Distinct order
distinct_permutation r order h = distinct_counts order once
  where
    once : (i : ℕ) → occurrences i order ≤ 1
    once i =
        let parts = and_parts (list_all (λ j. nat_lt j r) order) (all_below r (λ j. occurrences j order == 1)) h in
        elim (cases_lt i r) [
          | inl l ↦
              let one : occurrences i order ≡ 1 =
              eqb-true (occurrences i order) 1 (all_below_at r (λ j. occurrences j order == 1) i parts.1 l) in
              omega arith
          | inr l ↦ let none : occurrences i order ≡ 0 = none_above r i order parts.0 l in omega arith
        ]

pub below_permutation : (r i : ℕ) (order : List ℕ) → is_permutation r order ≡ true → In i order → i < r
below_permutation r i order h member =
    below order (and_parts (list_all (λ j. nat_lt j r) order) (all_below r (λ j. occurrences j order == 1)) h).0 member
  where
    below : (xs : List ℕ) → list_all (λ j. nat_lt j r) xs ≡ true → In i xs → i < r
    below [] all k = elim k [ ]
    below (x ∷ xs) all here = ltb-true x r (and_parts (nat_lt x r) (list_all (λ j. nat_lt j r) xs) all).0
    below (x ∷ xs) all (there k) = below xs (and_parts (nat_lt x r) (list_all (λ j. nat_lt j r) xs) all).1 k

pub in_permutation : (r i : ℕ) (order : List ℕ) → is_permutation r order ≡ true → i < r → In i order
in_permutation r i order h l =
    let once : occurrences i order ≡ 1 = eqb-true (occurrences i order) 1
    (all_below_at r (λ j. occurrences j order == 1) i
    (and_parts (list_all (λ j. nat_lt j r) order) (all_below r (λ j. occurrences j order == 1)) h).1 l) in
    let place = found i order (omega arith) in
    subst (In i) (sym place.2) (in_middle i place.0 place.1)

-- ---- as many as there can be

length-middle : {A : Type 0} (x : A) (prefix back : List A) → length (prefix ++ x ∷ back)
    ≡ suc (length (prefix ++ back))
length-middle x [] back = refl
length-middle x (y ∷ prefix) back = ap suc (length-middle x prefix back)

-- no more than r distinct numbers are below r
few : (r : ℕ) (xs : List ℕ) → Distinct xs → ((i : ℕ) → In i xs → i < r) → length xs ≤ r
few zero [] d below = omega arith
few zero (x ∷ xs) d below = let none : x < 0 = below x here in absurd (omega arith)
few (suc r) xs d below =
    elim (cases_lt 0 (occurrences r xs)) [
      | inl some ↦
          let at = found r xs some in
          let parts = distinct_middle r at.0 at.1 (subst Distinct at.2 d) in
          let rest : length (at.0 ++ at.1) ≤ r = few r (at.0 ++ at.1) parts.1
          (λ i k. lower i (below i (subst (In i) (sym at.2) (in_around r at.0 at.1 k)))
          (λ e. parts.0 (subst (λ j. In j (at.0 ++ at.1)) e k))) in
          let long : length xs ≡ suc (length (at.0 ++ at.1)) = ap length at.2 ∙ length-middle r at.0 at.1 in
          omega arith
      | inr none ↦
          let rest : length xs ≤ r =
          few r xs d (λ i k. lower i (below i k) (λ e. absent none (occurs r xs (subst (λ j. In j xs) e k)))) in
          omega arith
    ]
  where
    lower : (i : ℕ) → i < suc r → (i ≡ r → ⊥) → i < r
    lower i h other = omega arith

    absent : occurrences r xs ≤ 0 → 1 ≤ occurrences r xs → ⊥
    absent none some = omega arith

-- r distinct numbers below r are all of them
pub all_of_them : (r i : ℕ) (xs : List ℕ) → Distinct xs → ((j : ℕ) → In j xs → j < r) → length xs ≡ r → i < r → In i xs
all_of_them r i xs d below long l =
    elim (cases_lt 0 (occurrences i xs)) [
      | inl some ↦ let at = found i xs some in subst (In i) (sym at.2) (in_middle i at.0 at.1)
      | inr none ↦
          let more : length (i ∷ xs) ≤ r = few r (i ∷ xs) (λ k. absent none (occurs i xs k), d) (λ j k. under j k) in
          absurd (omega arith)
    ]
  where
    absent : occurrences i xs ≤ 0 → 1 ≤ occurrences i xs → ⊥
    absent none some = omega arith

    under : (j : ℕ) → In j (i ∷ xs) → j < r
    under j here = l
    under j (there k) = below j k
