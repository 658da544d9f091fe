-- The messages to the hasher, as their parts are put into arrays.
use Rattle.std.proofs.Common.{◌≡◌, ℕ, List, ◌∷◌, ◌++◌, length, take, drop, replicate, codes}
use Rattle.std.proofs.Common.{refl, ap, ◌∙◌, arith}
use Rattle.std.proofs.lemmas.List.{append-nil, take_at, drop_at, drop_all}
use borrow.Rule.Slice.PartMut.{put_mid}
use Rattle.byteorder.specs.Endian.{big_bytes}

-- two hashes one after the other, in the last 64 bytes of an array
filled : (left right first second other : List ℕ) → first ≡ left → second ≡ right → length left ≡ 32 → length other ≡ 32
    → take 32 (first ++ other) ++ (second ++ drop 32 (drop 32 (first ++ other))) ≡ left ++ right
filled left right first second other one two long rest =
    ap (λ f. take 32 (f ++ other) ++ (second ++ drop 32 (drop 32 (f ++ other)))) one
    ∙ ap (λ t. t ++ (second ++ drop 32 (drop 32 (left ++ other)))) (take_at left other 32 long)
    ∙ ap (λ t. left ++ (second ++ drop 32 t)) (drop_at left other 32 long)
    ∙ ap (λ t. left ++ (second ++ t)) (drop_all 32 other (omega (arith, rest)))
    ∙ ap (λ t. left ++ t) (append-nil second)
    ∙ ap (λ t. left ++ t) two

-- a node's message: a first byte and two hashes, which fill the array
pub node-message : (left right first second other : List ℕ) → first ≡ left → second ≡ right → length left ≡ 32
    → length other ≡ 32
    → 1 ∷ (take 32 (first ++ other) ++ (second ++ drop 32 (drop 33 (1 ∷ (first ++ other))))) ≡ 1 ∷ (left ++ right)
node-message left right first second other one two long rest =
    ap (λ t. 1 ∷ t) (filled left right first second other one two long rest)

-- a token's message: six bytes, a number and two hashes, which fill the array
pub token-message : (seq : ℕ) (root replies name number first second : List ℕ) → name ≡ codes "EVESB2"
    → number ≡ big_bytes 4 seq ++ drop 4 (take 68 (drop 6 (name ++ replicate 68 0)))
    → first ≡ root → second ≡ replies → length root ≡ 32
    → put_mid 42 32 (put_mid 10 32 (put_mid 6 68 (name ++ replicate 68 0) number) first) second
    ≡ codes "EVESB2" ++ (big_bytes 4 seq ++ (root ++ replies))
token-message seq root replies name number first second named numbered one two long =
    ap (λ n. put_mid 42 32 (put_mid 10 32 (put_mid 6 68 (n ++ replicate 68 0) number) first) second) named
    ∙ ap (λ b. put_mid 42 32 (put_mid 10 32 (put_mid 6 68 (codes "EVESB2" ++ replicate 68 0) b) first) second)
    (numbered ∙ ap (λ n. big_bytes 4 seq ++ drop 4 (take 68 (drop 6 (n ++ replicate 68 0)))) named)
    ∙ ap (λ t. codes "EVESB2" ++ (big_bytes 4 seq ++ t))
    (filled root replies first second (replicate 32 0) one two long refl)
