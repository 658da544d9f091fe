-- Loops that read and keep no values.
use Rattle.std.proofs.Common.{◌≡◌, ℕ, suc, ◌-◌, ◌+◌, ◌≤◌, ◌<◌, true, false, leb, List, Option, Some, None, refl, sym}
use Rattle.std.proofs.Common.{ap, ◌∙◌, arith}
use Rattle.std.proofs.lemmas.Bool.{le-leb}
use Rattle.eve_grammar.specs.Readers.{◌>>=◌, Reader, number_at, restore_at, versioned_at}
use Rattle.eve_grammar.specs.inner.Scans.{total_at, rest_at, rising_at, saved_at}
use Rattle.eve_grammar.specs.Limits.{is_no_debt}
use Rattle.eve_grammar.specs.declared.restore.Restore.{Restore}
use Rattle.eve_smallbank.specs.declared.versioned.Versioned.{Versioned}

-- the sum with what came before
abbrev pub plus : ℕ → Option (ℕ × List ℕ) → Option (ℕ × List ℕ)
plus k r = r >>= λ y. Some (k + y.0, y.1)

plus-plus : (k n : ℕ) (r : Option (ℕ × List ℕ)) → plus k (r >>= λ y. Some (n + y.0, y.1)) ≡ plus (k + n) r
plus-plus k n (Some x) = ap (λ (m : ℕ). Some (m, x.1)) (omega arith)
plus-plus k n None = refl

pub total_more : (count i k n : ℕ) (bytes more : List ℕ) (all : Option (ℕ × List ℕ)) → i < count → number_at 2 bytes
    ≡ Some (n, more) → 1 ≤ n
    → plus k (total_at (count - i) bytes) ≡ all → plus (k + n) (total_at (count - (i + 1)) more) ≡ all
unfolding total_at
total_more count i k n bytes more all lt read big so_far =
    let left : count - i ≡ suc (count - (i + 1)) = omega arith in
    let test : leb 1 n ≡ true = le-leb 1 n big in
    let one : plus k (total_at (count - i) bytes) ≡ plus (k + n) (total_at (count - (i + 1)) more) =
    rw (left, read, test) (plus-plus k n (total_at (count - (i + 1)) more)) in
    sym one ∙ so_far

pub rest_more : {A : Type 0} (one : Reader A) (count i : ℕ) (bytes more : List ℕ) (a : A) (all : Option (List ℕ))
    → i < count → one bytes ≡ Some (a, more)
    → rest_at one (count - i) bytes ≡ all → rest_at one (count - (i + 1)) more ≡ all
unfolding rest_at
rest_more one count i bytes more a all lt read so_far =
    let left : count - i ≡ suc (count - (i + 1)) = omega arith in
    let step : rest_at one (count - i) bytes ≡ rest_at one (count - (i + 1)) more = rw (left, read) refl in
    sym step ∙ so_far

pub rest_short : {A : Type 0} (one : Reader A) (count i : ℕ) (bytes : List ℕ) (all : Option (List ℕ)) → i < count
    → one bytes ≡ None
    → rest_at one (count - i) bytes ≡ all → all ≡ None
unfolding rest_at
rest_short one count i bytes all lt read so_far =
    let left : count - i ≡ suc (count - (i + 1)) = omega arith in
    let step : rest_at one (count - i) bytes ≡ None = rw (left, read) refl in
    sym so_far ∙ step

pub rising_more : (rows least count i : ℕ) (bytes more : List ℕ) (r : Restore) (all : Option (List ℕ)) → i < count
    → restore_at rows bytes ≡ Some (r, more) → least ≤ r.row
    → rising_at rows least (count - i) bytes ≡ all → rising_at rows (r.row + 1) (count - (i + 1)) more ≡ all
unfolding rising_at
rising_more rows least count i bytes more r all lt read above so_far =
    let left : count - i ≡ suc (count - (i + 1)) = omega arith in
    let test : leb least r.row ≡ true = le-leb least r.row above in
    let step : rising_at rows least (count - i) bytes ≡ rising_at rows (r.row + 1) (count - (i + 1)) more =
    rw (left, read, test) refl in
    sym step ∙ so_far

pub saved_more : (row count : ℕ) (bytes more : List ℕ) (x : Versioned) (all : Option (List ℕ)) → row < count
    → versioned_at bytes ≡ Some (x, more) → is_no_debt row x ≡ true
    → saved_at row (count - row) bytes ≡ all → saved_at (row + 1) (count - (row + 1)) more ≡ all
unfolding saved_at
saved_more row count bytes more x all lt read test so_far =
    let left : count - row ≡ suc (count - (row + 1)) = omega arith in
    let step : saved_at row (count - row) bytes ≡ saved_at (row + 1) (count - (row + 1)) more =
    rw (left, read, test) refl in
    sym step ∙ so_far

pub saved_none : (row count : ℕ) (bytes : List ℕ) (all : Option (List ℕ)) → row < count → versioned_at bytes ≡ None
    → saved_at row (count - row) bytes ≡ all → all ≡ None
unfolding saved_at
saved_none row count bytes all lt read so_far =
    let left : count - row ≡ suc (count - (row + 1)) = omega arith in
    let step : saved_at row (count - row) bytes ≡ None = rw (left, read) refl in
    sym so_far ∙ step

pub saved_debt : (row count : ℕ) (bytes more : List ℕ) (x : Versioned) (all : Option (List ℕ)) → row < count
    → versioned_at bytes ≡ Some (x, more) → is_no_debt row x ≡ false
    → saved_at row (count - row) bytes ≡ all → all ≡ None
unfolding saved_at
saved_debt row count bytes more x all lt read test so_far =
    let left : count - row ≡ suc (count - (row + 1)) = omega arith in
    let step : saved_at row (count - row) bytes ≡ None = rw (left, read, test) refl in
    sym so_far ∙ step

pub saved_all : (row count : ℕ) (bytes : List ℕ) (all : Option (List ℕ)) → count ≤ row
    → saved_at row (count - row) bytes ≡ all → all ≡ Some bytes
unfolding saved_at
saved_all row count bytes all le so_far =
    let none : count - row ≡ 0 = omega arith in
    let step : saved_at row (count - row) bytes ≡ Some bytes = rw none refl in
    sym so_far ∙ step
