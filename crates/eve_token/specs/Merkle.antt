-- Merkle trees over lists. docs/TRACE.md, "Merkle token". A hash is its 32 bytes.
use Rattle.std.specs.Prelude.{ℕ, zero, suc, ◌+◌, ◌*◌, ◌<◌, ◌≤◌, List, [], ◌∷◌, ◌++◌, length, slice_index_or}
use Rattle.std.specs.Int.{IsPowerOfTwo}
use Rattle.byteorder.specs.Endian.{big_bytes}
use Rattle.sha2.specs.Sha256.{sha256}

-- the hash of a leaf: of the byte 00, the leaf's number and its text
abbrev pub leaf_hash : ℕ → List ℕ → List ℕ
leaf_hash number text = sha256 (0 ∷ (big_bytes 4 number ++ text))

-- the hash of a node: of the byte 01, the left hash and the right hash
abbrev pub node_hash : List ℕ → List ℕ → List ℕ
node_hash left right = sha256 (1 ∷ (left ++ right))

-- the hashes of the leaves, of which the first has this number
unfoldable pub leaf_hashes : {X : Type 0} → (X → List ℕ) → ℕ → List X → List (List ℕ)
leaf_hashes text number [] = []
leaf_hashes text number (leaf ∷ others) = leaf_hash number (text leaf) ∷ leaf_hashes text (number + 1) others

-- one level up: the nodes of the pairs from the left, and an odd last hash as it is
unfoldable pub next_level : List (List ℕ) → List (List ℕ)
next_level [] = []
next_level (last ∷ []) = last ∷ []
next_level (left ∷ (right ∷ others)) = node_hash left right ∷ next_level others

-- that many levels up
unfoldable pub levels_up : ℕ → List (List ℕ) → List (List ℕ)
levels_up zero hashes = hashes
levels_up (suc n) hashes = levels_up n (next_level hashes)

-- the one hash that is left at last: no list has more levels than hashes, and one hash stays itself
unfoldable pub merkle_root : List (List ℕ) → List ℕ
merkle_root hashes = slice_index_or (levels_up (length hashes) hashes) 0 []

-- k is the greatest power of two below n
pub record IsGreatestPowerBelow (k n : ℕ) : Type 0 where
  pub power : IsPowerOfTwo k
  pub below : k < n
  pub greatest : n ≤ 2 * k
