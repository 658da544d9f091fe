-- Public: other crates cite these lemmas. Reading that keeps no values finds the same as reading that does.
use Rattle.std.proofs.Common.{◌≡◌, ℕ, zero, suc, ◌+◌, ◌*◌, ◌≤◌, Bool, true, false, ◌&&◌, cond, ltb, leb, List, [], ◌∷◌}
use Rattle.std.proofs.Common.{length, drop, sum, Option, Some, None, refl, sym, ap, subst, ◌∙◌, arith}
use Rattle.std.specs.Prelude.{IsTrue}
use Rattle.std.specs.List.{flat_map, list_all}
use Rattle.std.proofs.lemmas.Bool.{and_parts, and_from, le-ltb, leb-true, le-leb}
use Rattle.std.proofs.lemmas.List.{length-append, length-drop, drop-drop}
use Rattle.std.proofs.lemmas.List.Sums.{sum_by-cons}
use Rattle.std.proofs.lemmas.Option.{same_Some}
use Rattle.byteorder.specs.Endian.{big_number}
use Rattle.eve_grammar.specs.Limits.{is_rising, is_no_debt, are_no_debts}
use Rattle.eve_grammar.specs.Readers.{◌>>=◌, Reader, number_at, many_at, restore_at, versioned_at}
use Rattle.eve_grammar.specs.inner.Scans.{total_at, rest_at, rising_at, saved_at}
use Rattle.eve_grammar.proofs.Codec.{bind_some}
use Rattle.eve_grammar.specs.declared.restore.Restore.{Restore}
use Rattle.eve_smallbank.specs.declared.versioned.Versioned.{Versioned}

-- ---- this many of a field

abbrev before_others : {A : Type 0} → A → List A × List ℕ → Option (List A × List ℕ)
before_others a y = Some (a ∷ y.0, y.1)

pub rest_is : {A : Type 0} (one : Reader A) (n : ℕ) (bytes : List ℕ) → rest_at one n bytes
    ≡ (many_at one n bytes >>= λ x. Some x.1)
unfolding rest_at many_at
rest_is one zero bytes = refl
rest_is {A = A} one (suc n) bytes = first (one bytes) (rest_is one n)
  where
    tail : (a : A) (m : Option (List A × List ℕ)) → (m >>= λ x. Some x.1) ≡ ((m >>= before_others a) >>= λ x. Some x.1)
    tail a None = refl
    tail a (Some y) = refl

    first : (r : Option (A × List ℕ)) → ((b : List ℕ) → rest_at one n b ≡ (many_at one n b >>= λ x. Some x.1))
        → (r >>= λ x. rest_at one n x.1) ≡ ((r >>= λ x. many_at one n x.1 >>= before_others x.0) >>= λ x. Some x.1)
    first None before = refl
    first (Some x) before = before x.1 ∙ tail x.0 (many_at one n x.1)

-- what was read where something stands after
pub rest_some : {A : Type 0} (one : Reader A) (n : ℕ) (bytes rest : List ℕ) → rest_at one n bytes ≡ Some rest
    → (xs : List A) × (many_at one n bytes ≡ Some (xs, rest))
rest_some {A = A} one n bytes rest e = by (many_at one n bytes) (sym (rest_is one n bytes) ∙ e)
  where
    by : (m : Option (List A × List ℕ)) → (m >>= λ x. Some x.1) ≡ Some rest → (xs : List A) × (m ≡ Some (xs, rest))
    by None e = absurd cc
    by (Some x) e = (x.0, ap (λ (r : List ℕ). Some (x.0, r)) (same_Some x.1 rest e))

pub rest_none : {A : Type 0} (one : Reader A) (n : ℕ) (bytes : List ℕ) → rest_at one n bytes ≡ None
    → many_at one n bytes ≡ None
rest_none {A = A} one n bytes e = by (many_at one n bytes) (sym (rest_is one n bytes) ∙ e)
  where
    by : (m : Option (List A × List ℕ)) → (m >>= λ x. Some x.1) ≡ None → m ≡ None
    by None e = refl
    by (Some x) e = absurd cc

pub many_length : {A : Type 0} (one : Reader A) (n : ℕ) (bytes : List ℕ) (x : List A × List ℕ) → many_at one n bytes
    ≡ Some x → length x.0 ≡ n
unfolding many_at
many_length {A = A} one zero bytes x e = let there : List A × List ℕ = ([], bytes) in
    ap (λ (y : List A × List ℕ). length y.0) (sym (same_Some there x e))
many_length {A = A} one (suc n) bytes x e =
    let a = bind_some (one bytes) (λ a. many_at one n a.1 >>= λ y. Some (a.0 ∷ y.0, y.1)) x e in
    let b = bind_some (many_at one n a.0.1) (λ y. Some (a.0.0 ∷ y.0, y.1)) x a.2 in
    let there : List A × List ℕ = (a.0.0 ∷ b.0.0, b.0.1) in
    ap (λ (y : List A × List ℕ). length y.0) (sym (same_Some there x b.2)) ∙ ap suc (many_length one n a.0.1 b.0 b.1)

-- ---- of a fixed length

pub text_length : {A : Type 0} (m : ℕ) (ta : A → List ℕ) → ((a : A) → length (ta a) ≡ m) → (xs : List A)
    → length (flat_map ta xs) ≡ m * length xs
text_length m ta len [] = omega arith
text_length m ta len (x ∷ xs) = omega (arith, len x, text_length m ta len xs, length-append (ta x) (flat_map ta xs))

-- numbers of two bytes are there where the bytes are
pub many_numbers : (n : ℕ) (bytes : List ℕ) → 2 * n ≤ length bytes → (xs : List ℕ)
    × (many_at (number_at 2) n bytes ≡ Some (xs, drop (2 * n) bytes))
unfolding many_at
many_numbers zero bytes le = ([], refl)
many_numbers (suc n) bytes le =
    let long : ltb (length bytes) 2 ≡ false = le-ltb _ _ (omega arith) in
    let more = many_numbers n (drop 2 bytes) (omega (arith, length-drop 2 bytes)) in
    let twice : 2 + 2 * n ≡ 2 * suc n = omega arith in
    let rest : drop (2 * n) (drop 2 bytes) ≡ drop (2 * suc n) bytes = drop-drop (2 * n) 2 bytes
    ∙ ap (λ (k : ℕ). drop k bytes) twice in
    (big_number 2 bytes ∷ more.0, rw (long, more.1) (ap (λ (r : List ℕ). Some (big_number 2 bytes ∷ more.0, r)) rest))

-- ---- sizes

abbrev pub counted : ℕ → List ℕ → Option (ℕ × List ℕ)
counted n rest = Some (n, rest)

-- the sum of sizes, if none is 0
abbrev pub summed : Option (List ℕ × List ℕ) → Option (ℕ × List ℕ)
summed m = m >>= λ s. cond (list_all (leb 1) s.0) (Some (sum s.0, s.1)) None

summed-cons : (n : ℕ) (m : Option (List ℕ × List ℕ)) (b : Bool) → leb 1 n ≡ b
    → cond b (summed m >>= λ y. Some (n + y.0, y.1)) None ≡ summed (m >>= λ y. Some (n ∷ y.0, y.1))
summed-cons n None true e = refl
summed-cons n None false e = refl
summed-cons n (Some s) true e = rw e (with_all (list_all (leb 1) s.0))
  where
    with_all : (c : Bool) → (cond c (counted (sum s.0) s.1) None >>= λ y. Some (n + y.0, y.1))
        ≡ cond c (counted (sum (n ∷ s.0)) s.1) None
    with_all true = ap (λ (k : ℕ). counted k s.1) (sym (sum_by-cons (λ x. x) n s.0))
    with_all false = refl
summed-cons n (Some s) false e = rw e refl

pub total_is : (n : ℕ) (bytes : List ℕ) → total_at n bytes ≡ summed (many_at (number_at 2) n bytes)
unfolding total_at many_at
total_is zero bytes = refl
total_is (suc n) bytes = first (number_at 2 bytes) (total_is n)
  where
    first : (r : Option (ℕ × List ℕ)) → ((b : List ℕ) → total_at n b ≡ summed (many_at (number_at 2) n b))
        → (r >>= λ x. cond (leb 1 x.0) (total_at n x.1 >>= λ y. Some (x.0 + y.0, y.1)) None)
        ≡ summed (r >>= λ x. many_at (number_at 2) n x.1 >>= λ y. Some (x.0 ∷ y.0, y.1))
    first None before = refl
    first (Some x) before = ap (λ (t : Option (ℕ × List ℕ)). cond (leb 1 x.0) (t >>= λ y. Some (x.0 + y.0, y.1)) None)
        (before x.1) ∙ summed-cons x.0 (many_at (number_at 2) n x.1) (leb 1 x.0) refl

-- ---- rows

-- what stands after, if no saving is below 0
abbrev pub saved : ℕ → Option (List Versioned × List ℕ) → Option (List ℕ)
saved row m = m >>= λ x. cond (are_no_debts row x.0) (Some x.1) None

saved-cons : (row : ℕ) (x : Versioned) (m : Option (List Versioned × List ℕ)) (b : Bool) → is_no_debt row x ≡ b
    → cond b (saved (row + 1) m) None ≡ saved row (m >>= λ y. Some (x ∷ y.0, y.1))
saved-cons row x None true e = refl
saved-cons row x None false e = refl
saved-cons row x (Some y) true e = rw e refl
saved-cons row x (Some y) false e = rw e refl

pub saved_is : (row n : ℕ) (bytes : List ℕ) → saved_at row n bytes ≡ saved row (many_at versioned_at n bytes)
unfolding saved_at many_at
saved_is row zero bytes = refl
saved_is row (suc n) bytes = first (versioned_at bytes) (λ k b. saved_is k n b)
  where
    first : (r : Option (Versioned × List ℕ))
        → ((k : ℕ) (b : List ℕ) → saved_at k n b ≡ saved k (many_at versioned_at n b))
        → (r >>= λ x. cond (is_no_debt row x.0) (saved_at (row + 1) n x.1) None)
        ≡ saved row (r >>= λ x. many_at versioned_at n x.1 >>= λ y. Some (x.0 ∷ y.0, y.1))
    first None before = refl
    first (Some x) before = ap (λ (t : Option (List ℕ)). cond (is_no_debt row x.0) t None) (before (row + 1) x.1)
        ∙ saved-cons row x.0 (many_at versioned_at n x.1) (is_no_debt row x.0) refl

-- ---- rising restores

-- rising, and each of this row or above
abbrev pub is_rising_from : ℕ → List Restore → Bool
is_rising_from least restores = list_all (λ r. leb least r.row) restores && is_rising restores

-- the rows above a row are above those below it
above_more : (low high : ℕ) (restores : List Restore) → low ≤ high → IsTrue (list_all (λ r. leb high r.row) restores)
    → IsTrue (list_all (λ r. leb low r.row) restores)
above_more low high [] le fits = refl
above_more low high (r ∷ restores) le fits =
    let p = and_parts (leb high r.row) (list_all (λ r. leb high r.row) restores) fits in
    let here = leb-true high r.row p.0 in
    and_from (leb low r.row) (list_all (λ r. leb low r.row) restores) (le-leb low r.row (omega arith))
    (above_more low high restores le p.1)

same_tests : (a b : Bool) → (IsTrue a → IsTrue b) → (IsTrue b → IsTrue a) → a ≡ b
same_tests true b to from = sym (to refl)
same_tests false true to from = from refl
same_tests false false to from = refl

pub rising-cons : (least : ℕ) (r : Restore) (restores : List Restore) → is_rising_from least (r ∷ restores)
    ≡ (leb least r.row && is_rising_from (r.row + 1) restores)
rising-cons least r restores =
    let one : r.row + 1 ≡ suc r.row = omega arith in
    same_tests (is_rising_from least (r ∷ restores)) (leb least r.row && is_rising_from (r.row + 1) restores)
    (λ fits.
    let p = and_parts (leb least r.row && list_all (λ q. leb least q.row) restores)
    (list_all (λ q. ltb r.row q.row) restores && is_rising restores) fits in
    let q = and_parts (leb least r.row) (list_all (λ q. leb least q.row) restores) p.0 in
    and_from (leb least r.row) (is_rising_from (r.row + 1) restores) q.0
    (subst (λ (k : ℕ). IsTrue (is_rising_from k restores)) (sym one) p.1))
    (λ fits.
    let p = and_parts (leb least r.row) (is_rising_from (r.row + 1) restores) fits in
    let s : IsTrue (is_rising_from (suc r.row) restores) = subst (λ (k : ℕ). IsTrue (is_rising_from k restores)) one p.1
    in
    let q = and_parts (list_all (λ q. leb (suc r.row) q.row) restores) (is_rising restores) s in
    let here = leb-true least r.row p.0 in
    and_from (leb least r.row && list_all (λ q. leb least q.row) restores)
    (list_all (λ q. ltb r.row q.row) restores && is_rising restores)
    (and_from (leb least r.row) (list_all (λ q. leb least q.row) restores) p.0
    (above_more least (suc r.row) restores (omega arith) q.0)) s)

-- what stands after, if the restores rise
abbrev pub risen : ℕ → Option (List Restore × List ℕ) → Option (List ℕ)
risen least m = m >>= λ x. cond (is_rising_from least x.0) (Some x.1) None

risen-cons : (least : ℕ) (r : Restore) (m : Option (List Restore × List ℕ)) (b : Bool) → leb least r.row ≡ b
    → cond b (risen (r.row + 1) m) None ≡ risen least (m >>= λ y. Some (r ∷ y.0, y.1))
risen-cons least r None true e = refl
risen-cons least r None false e = refl
risen-cons least r (Some x) true e = rw (rising-cons least r x.0, e) refl
risen-cons least r (Some x) false e = rw (rising-cons least r x.0, e) refl

pub rising_is : (rows least n : ℕ) (bytes : List ℕ) → rising_at rows least n bytes
    ≡ risen least (many_at (restore_at rows) n bytes)
unfolding rising_at many_at
rising_is rows least zero bytes = refl
rising_is rows least (suc n) bytes = first (restore_at rows bytes) (λ k b. rising_is rows k n b)
  where
    first : (r : Option (Restore × List ℕ))
        → ((k : ℕ) (b : List ℕ) → rising_at rows k n b ≡ risen k (many_at (restore_at rows) n b))
        → (r >>= λ x. cond (leb least x.0.row) (rising_at rows (x.0.row + 1) n x.1) None)
        ≡ risen least (r >>= λ x. many_at (restore_at rows) n x.1 >>= λ y. Some (x.0 ∷ y.0, y.1))
    first None before = refl
    first (Some x) before = ap (λ (t : Option (List ℕ)). cond (leb least x.0.row) t None) (before (x.0.row + 1) x.1)
        ∙ risen-cons least x.0 (many_at (restore_at rows) n x.1) (leb least x.0.row) refl

pub rising_from_zero : (restores : List Restore) → is_rising_from 0 restores ≡ is_rising restores
rising_from_zero restores = same_tests (is_rising_from 0 restores) (is_rising restores)
    (λ fits. (and_parts (list_all (λ r. leb 0 r.row) restores) (is_rising restores) fits).1)
    (λ fits. and_from (list_all (λ r. leb 0 r.row) restores) (is_rising restores) (all restores) fits)
  where
    all : (restores : List Restore) → IsTrue (list_all (λ r. leb 0 r.row) restores)
    all [] = refl
    all (r ∷ restores) = and_from (leb 0 r.row) (list_all (λ r. leb 0 r.row) restores) (le-leb 0 r.row (omega arith))
        (all restores)
