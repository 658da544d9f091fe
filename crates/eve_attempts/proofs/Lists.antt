-- Lists, place by place.
use Rattle.std.proofs.Common.{◌≡◌, ℕ, zero, suc, ◌+◌, ◌-◌, ◌<◌, ◌≤◌, Bool, true, false, List, [], ◌∷◌}
use Rattle.std.proofs.Common.{map, length, set, replicate, get_or, take, drop, ◌++◌, refl, sym, subst}
use Rattle.std.proofs.Common.{ap, ◌∙◌, add-one, arith}
use Rattle.std.specs.List.{AllByRecursion, list_all}
use Rattle.std.proofs.lemmas.Bool.{and_parts, and_from, false≢true}
use Rattle.std.specs.Bool.{Decides}
use Rattle.std.proofs.lemmas.List.{drop_more, drop_all}
use Rattle.eve_grammar.proofs.Lists.{all_unmapped}

-- the item at a place, told by the list, and those after it
pub drop_read : {A : Type 0} (xs : List A) (i : ℕ) (x : A) → i < length xs → x ≡ get_or xs i x
    → drop i xs ≡ x ∷ drop (i + 1) xs
drop_read xs i x within is = drop_more xs i x within ∙ ap (λ (y : _). y ∷ drop (i + 1) xs) (sym is)

-- ---- items put in place one after another

-- the first n of a list have these values, and the next has
pub put_next : {A B : Type 0} (f : A → B) (xs : List A) (old : List B) (n : ℕ) (x : A) → n < length xs
    → length old ≡ length xs → x ≡ get_or xs n x
    → set (map f (take n xs) ++ drop n old) n (f x) ≡ map f (take (n + 1) xs) ++ drop (n + 1) old
put_next f [] old n x within many is = absurd (omega arith)
put_next f (y ∷ xs) [] n x within many is = absurd (omega arith)
put_next f (y ∷ xs) (z ∷ old) zero x within many is = ap (λ (v : _). f v ∷ old) is
put_next f (y ∷ xs) (z ∷ old) (suc n) x within many is =
    let e : suc (n + 1) ≡ suc n + 1 = omega arith in
    ap (λ (ys : List _). f y ∷ ys) (put_next f xs old n x (omega arith) (omega arith) is)
    ∙ ap (λ (k : ℕ). map f (take k (y ∷ xs)) ++ drop k (z ∷ old)) e

-- ---- along a loop

-- what is left of a list has a property where the list has it, and the other way round
pub record Goes {A : Type 0} (P : A → Type 0) (xs : List A) (k : ℕ) : Type 0 where
  pub all : AllByRecursion P (drop k xs) → AllByRecursion P xs
  pub rest : AllByRecursion P xs → AllByRecursion P (drop k xs)

pub goes_start : {A : Type 0} (P : A → Type 0) (xs : List A) → Goes P xs 0
goes_start P xs = record { all = λ h. h; rest = λ h. h }

pub goes_more : {A : Type 0} (P : A → Type 0) (xs : List A) (k : ℕ) (x : A) → Goes P xs k → drop k xs
    ≡ x ∷ drop (k + 1) xs → P x → Goes P xs (k + 1)
goes_more P xs k x goes is holds = record {
  all = λ h. goes.all (subst (AllByRecursion P) (sym is) (holds, h));
  rest = λ h. (subst (AllByRecursion P) is (goes.rest h)).1;
}

-- past the end nothing is left
pub goes_on : {A : Type 0} (P : A → Type 0) (xs : List A) (k : ℕ) → Goes P xs k → length xs ≤ k → Goes P xs (k + 1)
goes_on P xs k goes past =
    let same : drop k xs ≡ drop (k + 1) xs = drop_all k xs past ∙ sym (drop_all (k + 1) xs (omega (arith, past))) in
    record {
      all = λ h. goes.all (subst (AllByRecursion P) (sym same) h);
      rest = λ h. subst (AllByRecursion P) same (goes.rest h);
    }

pub goes_stop : {A : Type 0} (P : A → Type 0) (xs : List A) (k : ℕ) (x : A) → Goes P xs k → drop k xs
    ≡ x ∷ drop (k + 1) xs → (P x → ⊥) → Decides false (AllByRecursion P xs)
goes_stop P xs k x goes is fails =
    ((λ e. absurd (false≢true e)), (λ h. absurd (fails (subst (AllByRecursion P) is (goes.rest h)).0)))

pub goes_end : {A : Type 0} (P : A → Type 0) (xs : List A) (k : ℕ) → Goes P xs k → length xs ≤ k
    → Decides true (AllByRecursion P xs)
goes_end P xs k goes all = ((λ _. goes.all (subst (AllByRecursion P) (sym (drop_all k xs all)) tt)), (λ _. refl))

-- what is decided to be false doesn't hold
pub fails_by : {P : Type 0} (r : Bool) → Decides r P → r ≡ false → P → ⊥
fails_by r d e p = false≢true (sym e ∙ d.1 p)

pub all_read : {A : Type 0} (p : A → Bool) (xs : List A) (i : ℕ) (x : A) → list_all p xs ≡ true → i < length xs
    → x ≡ get_or xs i x → p x ≡ true
all_read p [] i x all within is = absurd (omega arith)
all_read p (y ∷ xs) zero x all within is = ap p is ∙ (and_parts (p y) (list_all p xs) all).0
all_read p (y ∷ xs) (suc i) x all within is = all_read p xs i x (and_parts (p y) (list_all p xs) all).1 (omega arith) is

-- the item before a place, and those from the place on
pub drop_before : {A : Type 0} (xs : List A) (i : ℕ) (x : A) → 0 < i → i ≤ length xs → x ≡ get_or xs (i - 1) x
    → drop (i - 1) xs ≡ x ∷ drop i xs
drop_before xs zero x some within is = absurd (omega arith)
drop_before xs (suc i) x some within is =
    ap (λ (n : ℕ). drop n xs) (less i) ∙ drop_read xs i x (omega arith) (is ∙ ap (λ (n : ℕ). get_or xs n x) (less i))
    ∙ ap (λ (n : ℕ). x ∷ drop n xs) (add-one i)
  where
    less : (n : ℕ) → suc n - 1 ≡ n
    less n = omega arith

pub all_mapped : {A B : Type 0} (P : B → Type 0) (f : A → B) (xs : List A) → AllByRecursion (λ x. P (f x)) xs
    → AllByRecursion P (map f xs)
all_mapped P f [] all = tt
all_mapped P f (x ∷ xs) all = (all.0, all_mapped P f xs all.1)

pub decides_mapped : {A B : Type 0} (P : B → Type 0) (f : A → B) (xs : List A) (r : Bool)
    → Decides r (AllByRecursion (λ x. P (f x)) xs) → Decides r (AllByRecursion P (map f xs))
decides_mapped P f xs r d = ((λ e. all_mapped P f xs (d.0 e)), (λ h. d.1 (all_unmapped P f xs h)))

-- what is made of the item at a place
pub mapped_at : {A B : Type 0} (f : A → B) (xs : List A) (i : ℕ) (x : A) (d : B) → i < length xs → x ≡ get_or xs i x
    → get_or (map f xs) i d ≡ f x
mapped_at f [] i x d within is = absurd (omega arith)
mapped_at f (y ∷ xs) zero x d within is = ap f (sym is)
mapped_at f (y ∷ xs) (suc i) x d within is = mapped_at f xs i x d (omega arith) is

pub list_all-set : {A : Type 0} (p : A → Bool) (xs : List A) (i : ℕ) (x : A) → list_all p xs ≡ true → p x ≡ true
    → list_all p (set xs i x) ≡ true
list_all-set p [] i x all is = all
list_all-set p (y ∷ xs) zero x all is = and_from (p x) (list_all p xs) is (and_parts (p y) (list_all p xs) all).1
list_all-set p (y ∷ xs) (suc i) x all is =
    let parts = and_parts (p y) (list_all p xs) all in
    and_from (p y) (list_all p (set xs i x)) parts.0 (list_all-set p xs i x parts.1 is)

pub list_all-replicate : {A : Type 0} (p : A → Bool) (n : ℕ) (x : A) → p x ≡ true → list_all p (replicate n x) ≡ true
list_all-replicate p zero x is = refl
list_all-replicate p (suc n) x is = and_from (p x) (list_all p (replicate n x)) is (list_all-replicate p n x is)
