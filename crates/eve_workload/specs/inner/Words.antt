-- Words in the bytes of a text. docs/TRACE.md, "Workload".
use Rattle.std.specs.Prelude.{◌≡◌, ℕ, ◌<◌, ◌≤◌, nat_lt, Bool, IsTrue, List, map, length, take, slice_index}
use Rattle.std.specs.List.{list_all}
use Rattle.std.specs.Borrow.{Bor}
use Rattle.eve_workload.specs.Lines.{text_of_words}

-- a byte that may stand in a word: one above a space
abbrev pub is_inside : ℕ → Bool
is_inside byte = nat_lt 32 byte

-- the bytes of words
abbrev pub bytes_of : List (Bor (List ℕ)) → List (List ℕ)
bytes_of words = map (λ word. word.now) words

-- a line feed stands here or further behind
pub record HasLineFeed (text : List ℕ) (from : ℕ) : Type 0 where
  pub at : ℕ
  pub order : from ≤ at
  pub within : at < length text
  pub is : slice_index text at ≡ 10

-- the first `len` bytes are a line of these words
pub record IsFirstLine (text : List ℕ) (words : List (List ℕ)) (len : ℕ) : Type 0 where
  pub line : take len text ≡ text_of_words words
  pub within : len ≤ length text
  pub some : 1 ≤ length words
  pub inside : IsTrue (list_all (list_all is_inside) words)

-- there is a first byte, and no zero before others
pub record BeginsAsNumber (word : List ℕ) : Type 0 where
  pub some : 0 < length word
  pub leads : slice_index word 0 ≡ 48 → length word ≡ 1
