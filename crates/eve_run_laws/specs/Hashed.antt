-- The messages that are hashed for a token. docs/MODEL.md, "Token"; docs/TRACE.md, "Token" and "Merkle token".
use Rattle.std.specs.Prelude.{◌≡◌, ℕ, ◌+◌, ◌*◌, ℤ, List, ◌∷◌, ◌++◌, slice_get, Some, codes}
use Rattle.std.specs.List.{flat_map}
use Rattle.byteorder.specs.Endian.{big_bytes}
use Rattle.eve_smallbank.specs.declared.request.Reply.{Reply}
use Rattle.eve_smallbank.specs.Spelling.{money_text, reply_text}
use Rattle.eve_token.specs.Merkle.{leaf_hashes, levels_up}
use Rattle.eve_token.specs.Token.{rows_root, replies_root}

-- what the token of version 1 is the hash of: a batch's number, all balances in row order, the replies in request order
abbrev pub flat_message : ℕ → List ℤ → List Reply → List ℕ
flat_message n balances replies =
    codes "EVESB1" ++ (big_bytes 4 n ++ (flat_map money_text balances ++ flat_map reply_text replies))

-- what the token of version 2 is the hash of: a batch's number, the root over all rows, the root over the replies
abbrev pub roots_message : ℕ → List ℤ → List Reply → List ℕ
roots_message n balances replies =
    codes "EVESB2" ++ (big_bytes 4 n ++ (rows_root balances ++ replies_root replies))

-- what a leaf's hash is of: the byte 00, the leaf's number and its text
abbrev pub leaf_message : ℕ → List ℕ → List ℕ
leaf_message number text = 0 ∷ (big_bytes 4 number ++ text)

-- what a node's hash is of: the byte 01, the left hash and the right hash
abbrev pub node_message : List ℕ → List ℕ → List ℕ
node_message left right = 1 ∷ (left ++ right)

-- hashed in the tree over these leaves: of one of them, or of a pair on one of its levels, counted from the left
pub data IsHashedInTree {X : Type 0} (text : X → List ℕ) (leaves : List X) (message : List ℕ) : Type 0 where
  OfLeaf : (number : ℕ) (leaf : X) → slice_get leaves number ≡ Some leaf → message ≡ leaf_message number (text leaf)
      → IsHashedInTree text leaves message
  OfNode : (level pair : ℕ) (left right : List ℕ)
      → slice_get (levels_up level (leaf_hashes text 0 leaves)) (2 * pair) ≡ Some left
      → slice_get (levels_up level (leaf_hashes text 0 leaves)) (2 * pair + 1) ≡ Some right
      → message ≡ node_message left right → IsHashedInTree text leaves message

-- hashed for the token that this version gives a batch's number, balances and replies
pub data IsHashedFor (version n : ℕ) (balances : List ℤ) (replies : List Reply) (message : List ℕ) : Type 0 where
  OfAll : version ≡ 1 → message ≡ flat_message n balances replies → IsHashedFor version n balances replies message
  OfRoots : version ≡ 2 → message ≡ roots_message n balances replies → IsHashedFor version n balances replies message
  OfRows : version ≡ 2 → IsHashedInTree money_text balances message → IsHashedFor version n balances replies message
  OfReplies : version ≡ 2 → IsHashedInTree reply_text replies message → IsHashedFor version n balances replies message
