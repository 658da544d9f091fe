-- Public: other crates cite these lemmas. Bytes and the numbers that they spell.
use Rattle.std.proofs.Common.{◌≡◌, ℕ, ◌+◌, ◌^◌, ◌<◌, ◌≤◌, List, ◌++◌, length, take, drop, sym, ap, subst, ◌∙◌, arith}
use Rattle.std.proofs.lemmas.Nat.{be_bytes_4}
use Rattle.std.proofs.lemmas.List.{drop_at, length-take, get_or-append-add}
use Rattle.byteorder.specs.Endian.{big_bytes, big_number}
use Rattle.byteorder.specs.Numbers.{big_number-reads_back, big_from-take, big_from-lt, length-bytes_high_first}
use Rattle.eve_grammar.proofs.Codec.{IsBytes, IsBytes-take}

pub IsBytes-behind : (xs ys : List ℕ) → IsBytes (xs ++ ys) → IsBytes ys
IsBytes-behind xs ys h i = subst (λ (b : ℕ). b < 256) (get_or-append-add xs ys i 0) (h (length xs + i))

-- four bytes spell the number that they are
pub number_back : (bytes : List ℕ) → IsBytes bytes → 4 ≤ length bytes → big_bytes 4 (big_number 4 bytes) ≡ take 4 bytes
number_back bytes fits long =
    let same : big_number 4 (take 4 bytes) ≡ big_number 4 bytes = big_from-take 0 4 4 bytes (omega arith) in
    ap (big_bytes 4) (sym same) ∙ be_bytes_4 (take 4 bytes) _ (omega (arith, length-take 4 bytes))
    (IsBytes-take 4 bytes fits) (omega arith)

pub number_short : (bytes : List ℕ) → IsBytes bytes → big_number 4 bytes < 2 ^ 32
number_short bytes fits = big_from-lt 0 4 bytes fits

-- a number is read as it is spelled
pub number_again : (n : ℕ) (rest : List ℕ) → n < 2 ^ 32 → big_number 4 (big_bytes 4 n ++ rest) ≡ n
number_again n rest short = big_number-reads_back 4 n rest short

pub number_behind : (n : ℕ) (rest : List ℕ) → drop 4 (big_bytes 4 n ++ rest) ≡ rest
number_behind n rest = drop_at (big_bytes 4 n) rest 4 (length-bytes_high_first 4 n)
