-- How a tree keeps the hashes of its nodes: one after another, from left to right.
use Rattle.std.specs.Prelude.{◌≡◌, ℕ, ℤ, zero, suc, ◌+◌, ◌*◌, ◌^◌, ◌<◌, nat_le, if◌then◌else◌, List, [], ◌∷◌, ◌++◌}
use Rattle.std.specs.Prelude.{length, take, drop, Option, IfSome}
use Rattle.eve_smallbank.specs.Spelling.{money_text}
use Rattle.eve_token.specs.Merkle.{leaf_hashes, merkle_root}

-- the hashes of all nodes over at most 2 ^ depth leaves: of the first part, the node's own, of the other part
unfoldable pub nodes_within : ℕ → List (List ℕ) → List (List ℕ)
nodes_within zero hashes = hashes
nodes_within (suc depth) hashes = if nat_le (length hashes) (2 ^ depth) then nodes_within depth hashes
    else nodes_within depth (take (2 ^ depth) hashes)
    ++ (merkle_root hashes ∷ nodes_within depth (drop (2 ^ depth) hashes))

-- the hashes of all nodes over the leaves with these hashes
abbrev pub nodes_of : List (List ℕ) → List (List ℕ)
nodes_of hashes = nodes_within (length hashes) hashes

-- each place is stale or has the hash of its node
unfoldable pub HaveHashes : List (Option (List ℕ)) → List (List ℕ) → Type 0
HaveHashes [] [] = Unit {0}
HaveHashes (place ∷ places) (hash ∷ hashes) = IfSome place (λ kept. kept ≡ hash) × HaveHashes places hashes
HaveHashes [] (hash ∷ hashes) = ⊥
HaveHashes (place ∷ places) [] = ⊥

-- a tree over some rows: a place that isn't stale has the hash of its node
pub record IsRowTree (balances : List ℤ) (places : List (Option (List ℕ))) : Type 0 where
  pub some : 0 < length balances
  pub whole : length places + 1 ≡ 2 * length balances
  pub kept : HaveHashes places (nodes_of (leaf_hashes money_text 0 balances))
