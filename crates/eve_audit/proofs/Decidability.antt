-- What can be decided.
use Rattle.std.proofs.Common.{◌≡◌, ℕ, zero, suc, ℤ, pos, ◌<◌, ◌⊎◌, inl, inr, List, [], ◌∷◌, Option, Some, None, IfSome}
use Rattle.std.proofs.Common.{refl, sym, ap, ap₂, subst, ◌∙◌, arith}
use Rattle.std.specs.List.{AllByRecursion}
use Rattle.std.specs.Ordering.{int_eq}
use Rattle.std.proofs.lemmas.Bool.{cases_Bool, cases_eq, cases_lt}
use Rattle.std.proofs.lemmas.Bool.Decides.{Decides-int_eq, not_from_Decides}
use Rattle.eve_smallbank.specs.declared.request.Abort.TheVariants.{NoSuchName, BadAmount, Insufficient, OutOfRange}
use Rattle.eve_smallbank.specs.declared.request.Reply.{Reply}
use Rattle.eve_smallbank.specs.declared.request.Reply.TheVariants.{Done, Total, Aborted}
use Rattle.eve_smallbank.specs.declared.entry.Kind.{Kind}
use Rattle.eve_smallbank.specs.declared.entry.Kind.TheVariants.{Read, Write}
use Rattle.eve_smallbank.specs.declared.entry.Entry.{Entry}
use Rattle.eve_views.specs.Form.{SomePlace}
use Rattle.eve_history.proofs.Places.{place_here, place_later}

abbrev pub Decided : Type 0 → Type 0
Decided P = P ⊎ ¬ P

-- ---- from other decisions

pub decided_both : {P Q : Type 0} → Decided P → Decided Q → Decided (P × Q)
decided_both (inl p) (inl q) = inl (p, q)
decided_both (inl p) (inr n) = inr (λ both. n both.1)
decided_both (inr n) q = inr (λ both. n both.0)

pub decided_not : {P : Type 0} → Decided P → Decided (¬ P)
decided_not (inl p) = inr (λ n. n p)
decided_not (inr n) = inl n

pub decided_as : {P Q : Type 0} → (P → Q) → (Q → P) → Decided P → Decided Q
decided_as to from (inl p) = inl (to p)
decided_as to from (inr n) = inr (λ q. n (from q))

-- what isn't refuted is so
pub stable : {P : Type 0} → Decided P → ¬ ¬ P → P
stable (inl p) not_not = p
stable (inr n) not_not = absurd (not_not n)

-- ---- at some place, or nowhere

module _ {A : Type 0} (P : A → Type 0) (decided : (x : A) → Decided (P x)) where
  pub all_or_place : (xs : List A) → AllByRecursion P xs ⊎ SomePlace xs (λ _ x. ¬ P x)
  all_or_place [] = inl tt
  all_or_place (x ∷ xs) = elim (decided x) [
    | inl here ↦ elim (all_or_place xs) [
      | inl all ↦ inl (here, all)
      | inr place
          ↦ inr (place_later (λ _ y. ¬ P y) x xs place)
    ]
    | inr wrong ↦ inr (place_here (λ _ y. ¬ P y) x xs wrong)
  ]

  -- what fails at none of their offsets holds of all
  pub all_if_none : (offset : A → ℕ) (xs : List A)
      → ((x : A) → SomePlace xs (λ _ y. (offset y ≡ offset x) × ¬ P y) → ⊥) → AllByRecursion P xs
  all_if_none offset xs none = elim (all_or_place xs) [
    | inl all ↦ all
    | inr place ↦ absurd (none place.item
        (record {
          before = place.before;
          item = place.item;
          rest = place.rest;
          is = place.is;
          holds = (refl, place.holds);
        }))
  ]

pub some_if : {A : Type 0} (P : A → Type 0) → ((x : A) → Decided (P x)) → (o : Option A) → Decided (IfSome o P)
some_if P decided None = inl tt
some_if P decided (Some x) = decided x

-- at some number below this
pub below_or_none : (P : ℕ → Type 0) → ((i : ℕ) → Decided (P i)) → (n : ℕ) → Decided ((i : ℕ) × (i < n) × P i)
below_or_none P decided zero = inr (λ found. none found.0 found.1)
  where
    none : (i : ℕ) → i < 0 → ⊥
    none i lt = omega (arith, lt)
below_or_none P decided (suc n) = elim (decided n) [
  | inl here ↦ inl (n, omega arith, here)
  | inr wrong ↦ elim (below_or_none P decided n) [
    | inl found ↦ inl (found.0, less n found.0 found.1, found.2)
    | inr none ↦ inr (λ found. by found.0 found.1 found.2 wrong none)
  ]
]
  where
    less : (n i : ℕ) → i < n → i < suc n
    less n i lt = omega (arith, lt)

    by : (i : ℕ) → i < suc n → P i → ¬ P n → ¬ ((j : ℕ) × (j < n) × P j) → ⊥
    by i lt is wrong none = elim (cases_lt i n) [
      | inl below ↦ none (i, below, is)
      | inr up ↦ (let same : i ≡ n = omega (arith, lt, up) in wrong (subst P same is))
    ]

-- ---- equality

abbrev pub HasEquality : Type 0 → Type 0
HasEquality A = (x y : A) → Decided (x ≡ y)

-- what is told apart by what it is turned into, and turned back from
told_apart_by : {A B : Type 0} (to : A → B) (from : B → A) → ((x : A) → from (to x) ≡ x) → HasEquality B → HasEquality A
told_apart_by to from back equal x y = elim (equal (to x) (to y)) [
  | inl same ↦ inl (sym (back x) ∙ ap from same ∙ back y)
  | inr apart ↦ inr (λ e. apart (ap to e))
]

pub numbers : HasEquality ℕ
numbers = cases_eq

pub integers : HasEquality ℤ
integers x y = elim (cases_Bool (int_eq x y)) [
  | inl same ↦ inl ((Decides-int_eq x y).0 same)
  | inr apart
      ↦ inr (not_from_Decides (int_eq x y) (Decides-int_eq x y) apart)
]

pub pairs : {A B : Type 0} → HasEquality A → HasEquality B → HasEquality (A × B)
pairs {A = A} {B = B} first second x y = decided_as (λ both i. (both.0 i, both.1 i))
    (λ e. (ap (λ (z : A × B). z.0) e, ap (λ (z : A × B). z.1) e)) (decided_both (first x.0 y.0) (second x.1 y.1))

pub lists : {A : Type 0} → HasEquality A → HasEquality (List A)
lists equal [] [] = inl refl
lists {A = A} equal [] (y ∷ ys) = inr (none y ys)
  where
    none : (y : A) (ys : List A) → ◌≡◌ {A = List A} [] (y ∷ ys) → ⊥
    none y ys e = cc
lists {A = A} equal (x ∷ xs) [] = inr (none x xs)
  where
    none : (x : A) (xs : List A) → ◌≡◌ {A = List A} (x ∷ xs) [] → ⊥
    none x xs e = cc
lists {A = A} equal (x ∷ xs) (y ∷ ys) =
    decided_as (λ both. ap₂ (λ (z : A) (zs : List A). z ∷ zs) both.0 both.1)
    (λ e. (first x y xs ys e, others x y xs ys e)) (decided_both (equal x y) (lists equal xs ys))
  where
    first : (x y : A) (xs ys : List A) → ◌≡◌ {A = List A} (x ∷ xs) (y ∷ ys) → x ≡ y
    first x y xs ys e = cc

    others : (x y : A) (xs ys : List A) → ◌≡◌ {A = List A} (x ∷ xs) (y ∷ ys) → xs ≡ ys
    others x y xs ys e = cc

pub options : {A : Type 0} → HasEquality A → HasEquality (Option A)
options equal None None = inl refl
options {A = A} equal None (Some y) = inr (none y)
  where
    none : (y : A) → ◌≡◌ {A = Option A} None (Some y) → ⊥
    none y e = cc
options {A = A} equal (Some x) None = inr (none x)
  where
    none : (x : A) → ◌≡◌ {A = Option A} (Some x) None → ⊥
    none x e = cc
options {A = A} equal (Some x) (Some y) = decided_as (ap (λ (z : A). Some z)) (inner x y) (equal x y)
  where
    inner : (x y : A) → ◌≡◌ {A = Option A} (Some x) (Some y) → x ≡ y
    inner x y e = cc

-- ---- replies and entries

reply_number : Reply → ℕ × ℤ
reply_number Done = (0, pos 0)
reply_number (Total sum) = (1, sum)
reply_number (Aborted NoSuchName) = (2, pos 0)
reply_number (Aborted BadAmount) = (3, pos 0)
reply_number (Aborted Insufficient) = (4, pos 0)
reply_number (Aborted OutOfRange) = (5, pos 0)

reply_of : ℕ × ℤ → Reply
reply_of (zero, sum) = Done
reply_of (suc zero, sum) = Total sum
reply_of (suc (suc zero), sum) = Aborted NoSuchName
reply_of (suc (suc (suc zero)), sum) = Aborted BadAmount
reply_of (suc (suc (suc (suc zero))), sum) = Aborted Insufficient
reply_of (suc (suc (suc (suc (suc n)))), sum) = Aborted OutOfRange

reply_again : (r : Reply) → reply_of (reply_number r) ≡ r
unfolding reply_of reply_number
reply_again Done = refl
reply_again (Total sum) = refl
reply_again (Aborted NoSuchName) = refl
reply_again (Aborted BadAmount) = refl
reply_again (Aborted Insufficient) = refl
reply_again (Aborted OutOfRange) = refl

pub replies : HasEquality Reply
replies = told_apart_by reply_number reply_of reply_again (pairs numbers integers)

kind_number : Kind → ℕ
kind_number Read = 0
kind_number Write = 1

kind_of : ℕ → Kind
kind_of zero = Read
kind_of (suc n) = Write

kind_again : (k : Kind) → kind_of (kind_number k) ≡ k
unfolding kind_of kind_number
kind_again Read = refl
kind_again Write = refl

kinds : HasEquality Kind
kinds = told_apart_by kind_number kind_of kind_again numbers

abbrev Told : Type 0
Told = (ℕ × Kind) × ((ℕ × ℤ) × ℤ)

told : Entry → Told
told e = ((e.row, e.kind), ((e.version, e.seen), e.after))

entry_of : Told → Entry
entry_of x = record { row = x.0.0; kind = x.0.1; version = x.1.0.0; seen = x.1.0.1; after = x.1.1 }

entries : HasEquality Entry
unfolding entry_of told
entries = told_apart_by told entry_of (λ e. refl)
    (pairs (pairs numbers kinds) (pairs (pairs numbers integers) integers))

pub entry_lists : HasEquality (List Entry)
entry_lists = lists entries
