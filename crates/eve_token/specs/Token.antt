-- The token of an attempt, by the version of the trace. All numbers in it are big-endian.
-- docs/MODEL.md, "Token"; docs/TRACE.md, "Token" and "Merkle token".
use Rattle.std.specs.Prelude.{ℕ, ℤ, List, ◌++◌, ◌==◌, if◌then◌else◌, codes}
use Rattle.std.specs.List.{flat_map}
use Rattle.byteorder.specs.Endian.{big_bytes}
use Rattle.sha2.specs.Sha256.{sha256}
use Rattle.eve_smallbank.specs.declared.request.Reply.{Reply}
use Rattle.eve_smallbank.specs.Spelling.{money_text, reply_text}
use Rattle.eve_token.specs.Merkle.{leaf_hashes, merkle_root}

-- version 1: a batch's number, all balances in row order, and the replies in request order
unfoldable pub flat_token : ℕ → List ℤ → List Reply → List ℕ
flat_token seq balances replies = sha256
    (codes "EVESB1" ++ (big_bytes 4 seq ++ (flat_map money_text balances ++ flat_map reply_text replies)))

-- the root over all rows, each a leaf with its number
abbrev pub rows_root : List ℤ → List ℕ
rows_root balances = merkle_root (leaf_hashes money_text 0 balances)

-- the root over the replies, each a leaf with its request's index
abbrev pub replies_root : List Reply → List ℕ
replies_root replies = merkle_root (leaf_hashes reply_text 0 replies)

-- version 2: a batch's number, a root over all rows, and the root over the replies
unfoldable pub token_from_root : ℕ → List ℕ → List Reply → List ℕ
token_from_root seq root replies = sha256
    (codes "EVESB2" ++ (big_bytes 4 seq ++ (root ++ replies_root replies)))

-- of a version, a batch's number, all balances in row order, and the replies in request order
unfoldable pub token_of : ℕ → ℕ → List ℤ → List Reply → List ℕ
token_of version seq balances replies =
    if version == 1 then flat_token seq balances replies else token_from_root seq (rows_root balances) replies
