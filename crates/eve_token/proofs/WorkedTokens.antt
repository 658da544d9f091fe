-- The token of a given run and the shape of a small tree, from the definitions alone.
use Rattle.std.proofs.Common.{◌≡◌, [], ◌∷◌, refl}
use Rattle.std.specs.Prelude.{ℤ, pos}
use Rattle.sha2.specs.Sha256.{first_words, schedule, rounds, compress, hash_after, digest_bytes, sha256}
use Rattle.eve_smallbank.specs.declared.request.Reply.TheVariants.{Done}
use Rattle.eve_smallbank.specs.Spelling.{money_text}
use Rattle.eve_token.specs.Merkle.{leaf_hash, node_hash, leaf_hashes, next_level, levels_up, merkle_root}
use Rattle.eve_token.specs.Token.{token_of, flat_token, token_from_root, rows_root}

-- batch 1 has one request, which deposits 500 cents with the only customer
pub token_of-deposit : token_of 1 1 (pos 0 ∷ pos 500 ∷ []) (Done ∷ []) ≡
    0xE4 ∷ 0x13 ∷ 0x02 ∷ 0x29 ∷ 0x83 ∷ 0x83 ∷ 0xDE ∷ 0x95 ∷ 0xA3 ∷ 0x8C ∷ 0x6B ∷ 0x57 ∷ 0x20 ∷
    0x29 ∷ 0x77 ∷ 0x40 ∷ 0x55 ∷ 0x9D ∷ 0xD3 ∷ 0x69 ∷ 0x90 ∷ 0xC8 ∷ 0x1E ∷ 0xBE ∷ 0x27 ∷ 0xC6 ∷
    0xF4 ∷ 0x28 ∷ 0x59 ∷ 0xFA ∷ 0x31 ∷ 0xAA ∷ []
unfolding token_of flat_token first_words schedule rounds compress hash_after digest_bytes sha256
token_of-deposit = refl

-- the same in version 2
pub token_of-merkle_deposit : token_of 2 1 (pos 0 ∷ pos 500 ∷ []) (Done ∷ []) ≡
    0x89 ∷ 0xF4 ∷ 0x34 ∷ 0xC2 ∷ 0x13 ∷ 0x01 ∷ 0x61 ∷ 0x2E ∷ 0x76 ∷ 0x7B ∷ 0x65 ∷ 0x07 ∷ 0x48 ∷
    0x28 ∷ 0x2B ∷ 0x7F ∷ 0x22 ∷ 0x51 ∷ 0x93 ∷ 0x78 ∷ 0xEE ∷ 0xAC ∷ 0x9F ∷ 0xD8 ∷ 0xAD ∷ 0x24 ∷
    0x1D ∷ 0xEB ∷ 0x0A ∷ 0x80 ∷ 0x6F ∷ 0x84 ∷ []
unfolding token_of token_from_root leaf_hashes next_level levels_up merkle_root first_words schedule rounds compress
    hash_after digest_bytes sha256
token_of-merkle_deposit = refl

-- three customers have six rows: the last pair goes up by itself
pub root_of-three_customers : (a b c d e f : ℤ) → rows_root (a ∷ b ∷ c ∷ d ∷ e ∷ f ∷ []) ≡
    node_hash (node_hash (node_hash (leaf_hash 0 (money_text a)) (leaf_hash 1 (money_text b)))
    (node_hash (leaf_hash 2 (money_text c)) (leaf_hash 3 (money_text d))))
    (node_hash (leaf_hash 4 (money_text e)) (leaf_hash 5 (money_text f)))
unfolding leaf_hashes next_level levels_up merkle_root
root_of-three_customers a b c d e f = refl
