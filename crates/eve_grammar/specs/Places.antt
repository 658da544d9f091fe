-- Bytes, and what stands at a place of them.
use Rattle.std.specs.Prelude.{ℕ, ◌<◌, ℤ, List, drop, get_or}
use Rattle.std.specs.Int.{w64, cast_signed}
use Rattle.byteorder.specs.Endian.{big_number}

-- each number of the list is a byte
abbrev pub IsBytes : List ℕ → Type 0
IsBytes bytes = (i : ℕ) → get_or bytes i 0 < 256

-- the bytes from a place on
unfoldable pub bytes_from : ℕ → List ℕ → List ℕ
bytes_from at bytes = drop at bytes

-- the number of n bytes at a place
unfoldable pub number_in : ℕ → ℕ → List ℕ → ℕ
number_in n at bytes = big_number n (drop at bytes)

-- two's complement in the eight bytes at a place
unfoldable pub signed_in : ℕ → List ℕ → ℤ
signed_in at bytes = cast_signed w64 (number_in 8 at bytes)
