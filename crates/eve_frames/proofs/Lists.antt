-- Values of one length that stand one after the other.
use Rattle.std.proofs.Common.{◌≡◌, ℕ, zero, suc, ◌+◌, ◌-◌, ◌*◌, ◌<◌, ◌≤◌, false, List, [], ◌∷◌, length, get_or, take}
use Rattle.std.proofs.Common.{drop, Option, Some, None, is_some, refl, sym, ap, subst, ◌∙◌, arith}
use Rattle.std.specs.Prelude.{IsTrue, slice_get}
use Rattle.std.specs.Iterator.{MakesProgress, item_count}
use Rattle.std.proofs.Math.Nat.{mul-suc}
use Rattle.std.proofs.lemmas.Option.{slice_get_read}
use Rattle.std.proofs.lemmas.List.{take_rest, length-drop, drop-drop}
use Rattle.byteorder.specs.Endian.{big_number}
use Rattle.eve_grammar.specs.Readers.{◌>>=◌, Reader, number_at, many_at}
use Rattle.eve_grammar.specs.Bodies.{values, list_in}
use Rattle.eve_frames.specs.inner.Items.{are_there}
use Rattle.eve_frames.proofs.Places.{Takes, number_some}
use Rattle.eve_grammar.proofs.Codec.{bind_some, some_is}

many_takes : {A : Type 0} (m : ℕ) (one : Reader A) → Takes m one → (n : ℕ) (bytes : List ℕ) (x : List A × List ℕ)
    → many_at one n bytes ≡ Some x → (m * n ≤ length bytes) × (x.1 ≡ drop (m * n) bytes)
unfolding many_at
many_takes {A = A} m one fixed zero bytes x e =
    let there : List A × List ℕ = ([], bytes) in
    let none : 0 ≡ m * 0 = omega arith in (
      omega (arith, none),
      ap (λ (y : List A × List ℕ). y.1) (sym (some_is there x e))
          ∙ ap (λ (k : ℕ). drop k bytes) none,
    )
many_takes {A = A} m one fixed (suc n) bytes x e =
    let a = bind_some (one bytes) (λ a. many_at one n a.1 >>= λ y. Some (a.0 ∷ y.0, y.1)) x e in
    let b = bind_some (many_at one n a.0.1) (λ y. Some (a.0.0 ∷ y.0, y.1)) x a.2 in
    let there : List A × List ℕ = (a.0.0 ∷ b.0.0, b.0.1) in
    let same : b.0.1 ≡ x.1 = ap (λ (y : List A × List ℕ). y.1) (some_is there x b.2) in
    let first = fixed.by bytes a.0 a.1 in
    let second = many_takes m one fixed n a.0.1 b.0 b.1 in
    let more : m + m * n ≡ m * suc n = omega (arith, mul-suc m n) in
    let one_long = first.0 in
    let others_long = second.0 in (
      omega (arith, one_long, others_long, ap length first.1, length-drop m bytes, more),
      sym same ∙ second.1
          ∙ ap (drop (m * n)) first.1 ∙ drop-drop (m * n) m bytes ∙ ap (λ (k : ℕ). drop k bytes) more,
    )

pub Takes-many : {A : Type 0} (m : ℕ) (one : Reader A) → Takes m one → (n : ℕ) → Takes (m * n) (many_at one n)
Takes-many m one fixed n = record { by = many_takes m one fixed n }

-- the i-th value stands after the i before it
item : {A : Type 0} (m : ℕ) (one : Reader A) → Takes m one → (n i : ℕ) (bytes : List ℕ) (x : List A × List ℕ)
    (other : A) → many_at one n bytes ≡ Some x → i < n
    → (rest : List ℕ) × (one (drop (m * i) bytes) ≡ Some (get_or x.0 i other, rest))
unfolding many_at
item m one fixed zero i bytes x other e lt = absurd (omega arith)
item {A = A} m one fixed (suc n) zero bytes x other e lt =
    let a = bind_some (one bytes) (λ a. many_at one n a.1 >>= λ y. Some (a.0 ∷ y.0, y.1)) x e in
    let b = bind_some (many_at one n a.0.1) (λ y. Some (a.0.0 ∷ y.0, y.1)) x a.2 in
    let there : List A × List ℕ = (a.0.0 ∷ b.0.0, b.0.1) in
    let none : m * 0 ≡ 0 = omega arith in (
      a.0.1,
      ap (λ (k : ℕ). one (drop k bytes)) none ∙ a.1
          ∙ ap (λ (y : List A × List ℕ). Some (get_or y.0 0 other, a.0.1)) (some_is there x b.2),
    )
item {A = A} m one fixed (suc n) (suc i) bytes x other e lt =
    let a = bind_some (one bytes) (λ a. many_at one n a.1 >>= λ y. Some (a.0 ∷ y.0, y.1)) x e in
    let b = bind_some (many_at one n a.0.1) (λ y. Some (a.0.0 ∷ y.0, y.1)) x a.2 in
    let there : List A × List ℕ = (a.0.0 ∷ b.0.0, b.0.1) in
    let first = fixed.by bytes a.0 a.1 in
    let later = item m one fixed n i a.0.1 b.0 other b.1 (omega arith) in
    let more : m * suc i ≡ m + m * i = omega (arith, mul-suc m i) in
    let here : drop (m * suc i) bytes ≡ drop (m * i) a.0.1 = ap (λ (k : ℕ). drop k bytes) more
    ∙ sym (drop-drop (m * i) m bytes) ∙ ap (drop (m * i)) (sym first.1) in (
      later.0,
      ap one here ∙ later.1 ∙ ap (λ (y : List A × List ℕ). Some (get_or y.0 (suc i) other, later.0))
          (some_is there x b.2),
    )

not_none : {A : Type 0} (o : Option A) → (o ≡ None → ⊥) → IsTrue (is_some o)
not_none None never = absurd (never refl)
not_none (Some x) never = refl

-- from this place on stand these n values of m bytes each
pub record Stand {A : Type 0} (m n at : ℕ) (one : Reader A) (bytes : List ℕ) (xs : List A) : Type 0 where
  pub fixed : Takes m one
  pub count : length xs ≡ n
  pub long : at + m * n ≤ length bytes
  pub rest : List ℕ
  pub read : many_at one n (drop at bytes) ≡ Some (xs, rest)

-- the i-th value, read at its place
stand_item : {A : Type 0} (m n at : ℕ) (one : Reader A) (bytes : List ℕ) (xs : List A) → Stand m n at one bytes xs
    → (i place : ℕ) (other : A) → i < n → place ≡ at + m * i
    → (rest : List ℕ) × (one (take (length bytes - place) (drop place bytes)) ≡ Some (get_or xs i other, rest))
stand_item m n at one bytes xs stand i place other lt where_is =
    let read = item m one stand.fixed n i (drop at bytes) (xs, stand.rest) other stand.read lt in
    let here : drop place bytes ≡ drop (m * i) (drop at bytes) = ap (λ (k : ℕ). drop k bytes) where_is
    ∙ sym (drop-drop (m * i) at bytes) in
    (read.0, ap one (take_rest bytes place ∙ here) ∙ read.1)

first_of_some : {A : Type 0} (x y : A) (p q : List ℕ) (r : Option (A × List ℕ)) → r ≡ Some (x, p) → r ≡ Some (y, q)
    → x ≡ y
first_of_some {A = A} x y p q r e f =
    let one : A × List ℕ = (x, p) in
    let two : A × List ℕ = (y, q) in
    ap (λ (z : A × List ℕ). z.0) (some_is one two (sym e ∙ f))

-- what is read there is the i-th value
pub stand_is : {A : Type 0} (m n at : ℕ) (one : Reader A) (bytes : List ℕ) (xs : List A) → Stand m n at one bytes xs
    → (i place : ℕ) → i < n → place ≡ at + m * i
    → (x : A) (rest : List ℕ) → one (take (length bytes - place) (drop place bytes)) ≡ Some (x, rest) → slice_get xs i
    ≡ Some x
stand_is m n at one bytes xs stand i place lt where_is x rest e =
    let read = stand_item m n at one bytes xs stand i place x lt where_is in
    slice_get_read xs n i x (sym stand.count) lt
    (first_of_some x (get_or xs i x) rest read.0 (one (take (length bytes - place) (drop place bytes))) e read.1)

-- and something is read there
pub stand_some : {A : Type 0} (m n at : ℕ) (one : Reader A) (bytes : List ℕ) (xs : List A) → Stand m n at one bytes xs
    → (i place : ℕ) → i < n → place ≡ at + m * i
    → one (take (length bytes - place) (drop place bytes)) ≡ None → ⊥
stand_some {A = A} m n at one bytes xs stand i place lt where_is e =
    by xs stand.count (λ other. stand_item m n at one bytes xs stand i place other lt where_is)
  where
    by : (ys : List A) → length ys ≡ n
        → ((other : A) → (rest : List ℕ)
        × (one (take (length bytes - place) (drop place bytes)) ≡ Some (get_or xs i other, rest))) → ⊥
    by [] count read = absurd (omega arith)
    by (y ∷ ys) count read = let r = read y in absurd (let f = sym e ∙ r.1 in cc)

pub stand_there : {A : Type 0} (m n at : ℕ) (one : Reader A) (bytes : List ℕ) (xs : List A)
    → Stand m n at one bytes xs → (i place : ℕ) → i < n → place ≡ at + m * i
    → IsTrue (is_some (one (take (length bytes - place) (drop place bytes))))
stand_there m n at one bytes xs stand i place lt where_is =
    not_none (one (take (length bytes - place) (drop place bytes)))
    (stand_some m n at one bytes xs stand i place lt where_is)

-- a number is the i-th one
pub stand_number : (m n at : ℕ) (bytes xs : List ℕ) → Stand m n at (number_at m) bytes xs → (i place : ℕ) → i < n
    → place ≡ at + m * i
    → slice_get xs i ≡ Some (big_number m (take (length bytes - place) (drop place bytes)))
stand_number m n at bytes xs stand i place lt where_is =
    let read = stand_item m n at (number_at m) bytes xs stand i place 0 lt where_is in
    let number = number_some m (take (length bytes - place) (drop place bytes)) (get_or xs i 0, read.0) read.1 in
    stand_is m n at (number_at m) bytes xs stand i place lt where_is
    (big_number m (take (length bytes - place) (drop place bytes))) read.0
    (read.1 ∙ ap (λ (k : ℕ). Some (k, read.0)) number.1)

-- ---- in one pass

-- all of them are there, and nothing else
pub record Passes {A : Type 0} (one : Reader A) (n : ℕ) (bytes : List ℕ) (xs : List A) : Type 0 where
  pub there : IsTrue (are_there one n bytes)
  pub list : list_in one n bytes ≡ xs

pub passes_from : {A : Type 0} (one : Reader A) (n place k at : ℕ) (bytes rest : List ℕ) (xs : List A)
    → many_at one n (drop at bytes) ≡ Some (xs, rest) → k ≡ n → place ≡ at
    → Passes one k (take (length bytes - place) (drop place bytes)) xs
passes_from {A = A} one n place k at bytes rest xs e same where_is =
    let read : many_at one k (take (length bytes - place) (drop place bytes)) ≡ Some (xs, rest)
    = ap (many_at one k) (take_rest bytes place) ∙ ap (λ (i : ℕ). many_at one i (drop place bytes)) same
    ∙ ap (λ (i : ℕ). many_at one n (drop i bytes)) where_is ∙ e in
    record { there = ap (λ (o : Option (List A × List ℕ)). is_some o) read; list = ap values read }

pub stand_passes : {A : Type 0} (m n at : ℕ) (one : Reader A) (bytes : List ℕ) (xs : List A) → Stand m n at one bytes xs
    → (k place : ℕ) → k ≡ n → place ≡ at
    → Passes one k (take (length bytes - place) (drop place bytes)) xs
stand_passes m n at one bytes xs stand k place same where_is =
    passes_from one n place k at bytes stand.rest xs stand.read same where_is

-- the first of them, and those after it
pub record Steps {A : Type 0} (one : Reader A) (n : ℕ) (bytes : List ℕ) (x : A) (rest : List ℕ) : Type 0 where
  pub there : IsTrue (are_there one (n - 1) rest)
  pub list : list_in one n bytes ≡ x ∷ list_in one (n - 1) rest

there_more : {A : Type 0} (one : Reader A) (n : ℕ) (bytes : List ℕ) → (m : Option (A × List ℕ)) → one bytes ≡ m
    → IsTrue (are_there one (suc n) bytes)
    → (y : A × List ℕ) × (m ≡ Some y) × IsTrue (are_there one n y.1)
    × (list_in one (suc n) bytes ≡ y.0 ∷ list_in one n y.1)
unfolding many_at
there_more one n bytes None e there = absurd (let f : are_there one (suc n) bytes ≡ false = rw e refl in let g = sym f
    ∙ there in cc)
there_more {A = A} one n bytes (Some y) e there = by (many_at one n y.1) refl
  where
    both : (many_at one n y.1 >>= λ z. Some (y.0 ∷ z.0, z.1)) ≡ many_at one (suc n) bytes
    both = rw e refl

    by : (m : Option (List A × List ℕ)) → many_at one n y.1 ≡ m → (z : A × List ℕ) × (Some y ≡ Some z)
        × IsTrue (are_there one n z.1) × (list_in one (suc n) bytes ≡ z.0 ∷ list_in one n z.1)
    by None f = absurd (let g : are_there one (suc n) bytes ≡ false = rw (sym both, f) refl in let h = sym g
        ∙ there in cc)
    by (Some x) f = (y, refl, rw f refl, rw (sym both, f) refl)

pub there_some : {A : Type 0} (one : Reader A) (n : ℕ) (bytes : List ℕ) → (n ≡ 0 → ⊥) → IsTrue (are_there one n bytes)
    → one bytes ≡ None → ⊥
there_some one zero bytes some there e = some refl
there_some one (suc n) bytes some there e = let m = there_more one n bytes None e there in absurd (let f = m.1 in cc)

pub there_first : {A : Type 0} (one : Reader A) (n : ℕ) (bytes : List ℕ) → (n ≡ 0 → ⊥) → IsTrue (are_there one n bytes)
    → IsTrue (is_some (one bytes))
there_first one n bytes some there = not_none (one bytes) (there_some one n bytes some there)

pub there_steps : {A : Type 0} (one : Reader A) (n : ℕ) (bytes : List ℕ) → (n ≡ 0 → ⊥) → IsTrue (are_there one n bytes)
    → (x : A) (rest : List ℕ) → one bytes ≡ Some (x, rest) → Steps one n bytes x rest
there_steps one zero bytes some there x rest e = absurd (some refl)
there_steps {A = A} one (suc n) bytes some there x rest e =
    let first : A × List ℕ = (x, rest) in
    let m = there_more one n bytes (Some first) e there in
    let same : m.0 ≡ first = sym (some_is first m.0 m.1) in
    let less : suc n - 1 ≡ n = omega arith in
    record {
      there = ap (λ (k : ℕ). are_there one k rest) less
          ∙ subst (λ (y : A × List ℕ). IsTrue (are_there one n y.1)) same m.2;
      list = subst (λ (y : A × List ℕ). list_in one (suc n) bytes ≡ y.0 ∷ list_in one n y.1) same m.3
          ∙ ap (λ (k : ℕ). x ∷ list_in one k rest) (sym less);
    }

-- none of them
pub none_left : {A : Type 0} (one : Reader A) (n : ℕ) (bytes : List ℕ) → n ≡ 0 → list_in one n bytes ≡ []
unfolding many_at
none_left one n bytes e = rw e refl

-- a call of `next` that gave the first of what was left
pub goes_on : {A B : Type 0} (can : List B → Type 0) → ((l : List B) → can l) → (s t : List B) (x : A) (y : B)
    → s ≡ y ∷ t → MakesProgress can (item_count (λ rest. rest)) s (Some x) t
goes_on can always s t x y e = record {
  on = λ _. (always t, tt, subst (λ l. length t < length l) (sym e) (omega arith));
  keeps = always t;
  rests = λ _. tt;
}
