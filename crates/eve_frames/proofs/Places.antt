-- Where the fields of a frame stand in its bytes.
use Rattle.std.proofs.Common.{◌≡◌, ℕ, ◌+◌, ◌≤◌, Bool, true, cond, ltb, eqb, List, length, get_or, take, drop}
use Rattle.std.proofs.Common.{Option, Some, None, is_some, unwrap_or, refl, sym, ap, ◌∙◌, arith, ◌-◌}
use Rattle.std.specs.Prelude.{IsTrue}
use Rattle.std.specs.Int.{w64, cast_signed}
use Rattle.std.proofs.lemmas.Bool.{ltb-false, eqb-true}
use Rattle.std.proofs.lemmas.List.{take_rest, length-drop, drop-drop, get_or-drop}
use Rattle.byteorder.specs.Endian.{big_number}
use Rattle.eve_grammar.specs.Readers.{◌>>=◌, Reader, number_at, bytes_at, signed_at, both, both_by, led_by, made}
use Rattle.eve_grammar.specs.Readers.{made_if, only, whole}
use Rattle.eve_grammar.proofs.Codec.{bind_some, guard_none, guard_some, some_is}

-- what was found, and not the value for what wasn't
pub found : {A : Type 0} (o : Option A) (other : A) → IsTrue (is_some o) → o ≡ Some (unwrap_or o other)
found (Some x) other there = refl
found None other there = absurd cc

-- ---- fields of a fixed length

-- the reader takes m bytes
pub record Takes {A : Type 0} (m : ℕ) (one : Reader A) : Type 0 where
  pub by : (bytes : List ℕ) (x : A × List ℕ) → one bytes ≡ Some x → (m ≤ length bytes) × (x.1 ≡ drop m bytes)

-- a number, and what stands after it
pub number_some : (n : ℕ) (bytes : List ℕ) (x : ℕ × List ℕ) → number_at n bytes ≡ Some x → (n ≤ length bytes)
    × (x.0 ≡ big_number n bytes) × (x.1 ≡ drop n bytes)
number_some n bytes x e =
    let there : ℕ × List ℕ = (big_number n bytes, drop n bytes) in
    let g = guard_none (ltb (length bytes) n) (Some there) x e in
    let same = some_is there x g.1 in
    (ltb-false (length bytes) n g.0, ap (λ (y : ℕ × List ℕ). y.0) (sym same), ap (λ (y : ℕ × List ℕ). y.1) (sym same))

pub bytes_some : (n : ℕ) (bytes : List ℕ) (x : List ℕ × List ℕ) → bytes_at n bytes ≡ Some x → (n ≤ length bytes)
    × (x.0 ≡ take n bytes) × (x.1 ≡ drop n bytes)
bytes_some n bytes x e =
    let there : List ℕ × List ℕ = (take n bytes, drop n bytes) in
    let g = guard_none (ltb (length bytes) n) (Some there) x e in
    let same = some_is there x g.1 in (
      ltb-false (length bytes) n g.0,
      ap (λ (y : List ℕ × List ℕ). y.0) (sym same),
      ap (λ (y : List ℕ × List ℕ). y.1)
          (sym same),
    )

pub made_some : {A B : Type 0} (to : A → B) (one : Reader A) (bytes : List ℕ) (x : B × List ℕ) → made to one bytes
    ≡ Some x → (a : A) × (one bytes ≡ Some (a, x.1)) × (x.0 ≡ to a)
made_some {A = A} {B = B} to one bytes x e =
    let a = bind_some (one bytes) (λ a. Some (to a.0, a.1)) x e in
    let there : B × List ℕ = (to a.0.0, a.0.1) in
    let same = some_is there x a.2 in (
      a.0.0,
      a.1 ∙ ap (λ (rest : List ℕ). Some (a.0.0, rest)) (ap (λ (y : B × List ℕ). y.1) same),
      ap (λ (y : B × List ℕ). y.0) (sym same),
    )

pub made_if_some : {A B : Type 0} (to : A → Option B) (one : Reader A) (bytes : List ℕ) (x : B × List ℕ)
    → made_if to one bytes ≡ Some x → (a : A) × (one bytes ≡ Some (a, x.1)) × (to a ≡ Some x.0)
made_if_some {A = A} {B = B} to one bytes x e =
    let a = bind_some (one bytes) (λ a. to a.0 >>= λ y. Some (y, a.1)) x e in
    let b = bind_some (to a.0.0) (λ y. Some (y, a.0.1)) x a.2 in
    let there : B × List ℕ = (b.0, a.0.1) in
    let same = some_is there x b.2 in (
      a.0.0,
      a.1 ∙ ap (λ (rest : List ℕ). Some (a.0.0, rest)) (ap (λ (y : B × List ℕ). y.1) same),
      b.1
          ∙ ap (λ (y : B × List ℕ). Some y.0) same,
    )

pub only_some : {A : Type 0} (test : A → Bool) (one : Reader A) (bytes : List ℕ) (x : A × List ℕ) → only test one bytes
    ≡ Some x → (one bytes ≡ Some x) × (test x.0 ≡ true)
only_some {A = A} test one bytes x e =
    let a = bind_some (one bytes) (λ a. cond (test a.0) (Some a) None) x e in
    let g = guard_some (test a.0.0) (Some a.0) x a.2 in
    let same = some_is a.0 x g.1 in
    (a.1 ∙ g.1, ap (λ (y : A × List ℕ). test y.0) (sym same) ∙ g.0)

-- the whole is read, and nothing stands after it
pub whole_some : {A : Type 0} (one : Reader A) (bytes : List ℕ) (x : A) → whole one bytes ≡ Some x → (rest : List ℕ)
    × (one bytes ≡ Some (x, rest)) × (length rest ≡ 0)
whole_some {A = A} one bytes x e =
    let a = bind_some (one bytes) (λ a. cond (eqb (length a.1) 0) (Some a.0) None) x e in
    let g = guard_some (eqb (length a.0.1) 0) (Some a.0.0) x a.2 in
    (a.0.1, a.1 ∙ ap (λ (y : A). Some (y, a.0.1)) (some_is a.0.0 x g.1), eqb-true (length a.0.1) 0 g.0)

pub Takes-number : (n : ℕ) → Takes n (number_at n)
Takes-number n = record { by = λ bytes x e. let s = number_some n bytes x e in (s.0, s.2) }

pub Takes-made : {A B : Type 0} (m : ℕ) (to : A → B) (one : Reader A) → Takes m one → Takes m (made to one)
Takes-made m to one fixed =
    record { by = λ bytes x e. let a = made_some to one bytes x e in fixed.by bytes (a.0, x.1) a.1 }

pub Takes-made_if : {A B : Type 0} (m : ℕ) (to : A → Option B) (one : Reader A) → Takes m one → Takes m (made_if to one)
Takes-made_if m to one fixed =
    record { by = λ bytes x e. let a = made_if_some to one bytes x e in fixed.by bytes (a.0, x.1) a.1 }

pub Takes-only : {A : Type 0} (m : ℕ) (test : A → Bool) (one : Reader A) → Takes m one → Takes m (only test one)
Takes-only m test one fixed = record { by = λ bytes x e. fixed.by bytes x (only_some test one bytes x e).0 }

pub Takes-signed : Takes 8 signed_at
Takes-signed = Takes-made 8 (cast_signed w64) (number_at 8) (Takes-number 8)

-- a field of m bytes at place k, and the next at place k + m
pub both_some : {A B : Type 0} (m k : ℕ) (one : Reader A) (two : Reader B) → Takes m one
    → (bytes : List ℕ) (x : (A × B) × List ℕ) → both one two (drop k bytes) ≡ Some x
    → (one (drop k bytes) ≡ Some (x.0.0, drop (k + m) bytes)) × (two (drop (k + m) bytes) ≡ Some (x.0.1, x.1))
both_some {A = A} {B = B} m k one two fixed bytes x e =
    let a = bind_some (one (drop k bytes)) (λ a. two a.1 >>= λ b. Some ((a.0, b.0), b.1)) x e in
    let b = bind_some (two a.0.1) (λ b. Some ((a.0.0, b.0), b.1)) x a.2 in
    let there : (A × B) × List ℕ = ((a.0.0, b.0.0), b.0.1) in
    let same = some_is there x b.2 in
    let behind : a.0.1 ≡ drop (k + m) bytes = (fixed.by (drop k bytes) a.0 a.1).1 ∙ drop-drop m k bytes in (
      a.1 ∙ ap (λ (r : List ℕ). Some (a.0.0, r)) behind
          ∙ ap (λ (y : (A × B) × List ℕ). Some (y.0.0, drop (k + m) bytes)) same,
      ap two (sym behind) ∙ b.1 ∙ ap (λ (y : (A × B) × List ℕ). Some (y.0.1, y.1)) same,
    )

-- the same where the first has any length
pub both_any : {A B : Type 0} (one : Reader A) (two : Reader B) (bytes : List ℕ) (x : (A × B) × List ℕ)
    → both one two bytes ≡ Some x
    → (rest : List ℕ) × (one bytes ≡ Some (x.0.0, rest)) × (two rest ≡ Some (x.0.1, x.1))
both_any {A = A} {B = B} one two bytes x e =
    let a = bind_some (one bytes) (λ a. two a.1 >>= λ b. Some ((a.0, b.0), b.1)) x e in
    let b = bind_some (two a.0.1) (λ b. Some ((a.0.0, b.0), b.1)) x a.2 in
    let there : (A × B) × List ℕ = ((a.0.0, b.0.0), b.0.1) in
    let same = some_is there x b.2 in (
      a.0.1,
      a.1 ∙ ap (λ (y : (A × B) × List ℕ). Some (y.0.0, a.0.1)) same,
      b.1
          ∙ ap (λ (y : (A × B) × List ℕ). Some (y.0.1, y.1)) same,
    )

-- a field that says how the next is read
pub led_some : {A B : Type 0} (m k : ℕ) (one : Reader A) (two : A → Reader B) → Takes m one
    → (bytes : List ℕ) (x : B × List ℕ) → led_by one two (drop k bytes) ≡ Some x
    → (a : A) × (one (drop k bytes) ≡ Some (a, drop (k + m) bytes)) × (two a (drop (k + m) bytes) ≡ Some x)
led_some {A = A} {B = B} m k one two fixed bytes x e =
    let a = bind_some (one (drop k bytes)) (λ a. two a.0 a.1) x e in
    let behind : a.0.1 ≡ drop (k + m) bytes = (fixed.by (drop k bytes) a.0 a.1).1 ∙ drop-drop m k bytes in
    (a.0.0, a.1 ∙ ap (λ (r : List ℕ). Some (a.0.0, r)) behind, ap (two a.0.0) (sym behind) ∙ a.2)

pub Takes-both : {A B : Type 0} (m n : ℕ) (one : Reader A) (two : Reader B) → Takes m one → Takes n two
    → Takes (m + n) (both one two)
Takes-both {A = A} {B = B} m n one two first second = record {
  by = λ bytes x e.
      let a = bind_some (one bytes) (λ a. two a.1 >>= λ b. Some ((a.0, b.0), b.1)) x e in
      let b = bind_some (two a.0.1) (λ b. Some ((a.0.0, b.0), b.1)) x a.2 in
      let there : (A × B) × List ℕ = ((a.0.0, b.0.0), b.0.1) in
      let same : b.0.1 ≡ x.1 = ap (λ (y : (A × B) × List ℕ). y.1) (some_is there x b.2) in
      let f = first.by bytes a.0 a.1 in
      let s = second.by a.0.1 b.0 b.1 in
      let f0 = f.0 in
      let s0 = s.0 in (
        omega (arith, f0, s0, ap length f.1, length-drop m bytes),
        sym same ∙ s.1 ∙ ap (drop n) f.1
            ∙ drop-drop n m bytes,
      );
}

-- the byte at a place, as a number
pub byte_at : (k : ℕ) (bytes : List ℕ) → big_number 1 (drop k bytes) ≡ get_or bytes k 0
byte_at k bytes =
    let e : get_or (drop k bytes) 0 0 ≡ get_or bytes (k + 0) 0 = get_or-drop k bytes 0 0 in
    let z : k + 0 ≡ k = omega arith in
    omega (arith, e, ap (λ (i : ℕ). get_or bytes i 0) z)

-- the number at a place, read in all that stands from there on
pub number_from : (n k : ℕ) (bytes : List ℕ) → big_number n (drop k bytes)
    ≡ big_number n (take (length bytes - k) (drop k bytes))
number_from n k bytes = ap (big_number n) (sym (take_rest bytes k))

-- two fields, of which the first, of any length, says how the second is read
pub by_some : {A B : Type 0} (one : Reader A) (two : A → Reader B) (bytes : List ℕ) (x : (A × B) × List ℕ)
    → both_by one two bytes ≡ Some x
    → (rest : List ℕ) × (one bytes ≡ Some (x.0.0, rest)) × (two x.0.0 rest ≡ Some (x.0.1, x.1))
by_some {A = A} {B = B} one two bytes x e =
    let a = bind_some (one bytes) (λ a. two a.0 a.1 >>= λ b. Some ((a.0, b.0), b.1)) x e in
    let b = bind_some (two a.0.0 a.0.1) (λ b. Some ((a.0.0, b.0), b.1)) x a.2 in
    let there : (A × B) × List ℕ = ((a.0.0, b.0.0), b.0.1) in
    let same = some_is there x b.2 in
    let first : a.0.0 ≡ x.0.0 = ap (λ (y : (A × B) × List ℕ). y.0.0) same in (
      a.0.1,
      a.1 ∙ ap (λ (y : A). Some (y, a.0.1)) first,
      ap (λ (y : A). two y a.0.1) (sym first) ∙ b.1
          ∙ ap (λ (y : (A × B) × List ℕ). Some (y.0.1, y.1)) same,
    )
