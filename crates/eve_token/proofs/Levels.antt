-- The levels of a Merkle tree: a list splits at the greatest power of two below its length, and so does its tree.
use Rattle.std.proofs.Common.{◌≡◌, ℕ, zero, suc, ◌+◌, ◌-◌, ◌*◌, ◌^◌, ◌<◌, ◌≤◌, List, [], ◌∷◌, ◌++◌, length, take, drop}
use Rattle.std.proofs.Common.{get_or, refl, sym, ap, subst, ◌∙◌, inl, inr, arith, length-take, length-drop}
use Rattle.std.proofs.lemmas.List.{take-append-drop}
use Rattle.std.proofs.lemmas.Bool.{cases_lt}
use Rattle.std.proofs.lemmas.Nat.{pow_pos}
use Rattle.std.proofs.Math.Nat.{pow-suc}
use Rattle.eve_token.specs.Merkle.{node_hash, next_level, levels_up, merkle_root, IsGreatestPowerBelow}

pub pow-double : (i m : ℕ) → 2 ^ suc i * m ≡ 2 * (2 ^ i * m)
pow-double i m = rw pow-suc (omega arith)

-- the next level has half as many hashes, rounded up
pub next-length : (hs : List (List ℕ)) → (length hs ≤ 2 * length (next_level hs)) ×
    (2 * length (next_level hs) ≤ length hs + 1)
unfolding next_level
next-length [] = (omega arith, omega arith)
next-length (a ∷ []) = (omega arith, omega arith)
next-length (a ∷ (b ∷ hs)) = let h = next-length hs in (omega (arith, h.0), omega (arith, h.1))

-- pairing a list whose first part has an even length pairs the parts by themselves
pub next-append : (m : ℕ) (xs ys : List (List ℕ)) → length xs ≡ 2 * m
    → next_level (xs ++ ys) ≡ next_level xs ++ next_level ys
unfolding next_level
next-append m [] ys even = refl
next-append m (a ∷ []) ys even = absurd (omega (arith, even))
next-append zero (a ∷ (b ∷ xs)) ys even = absurd (omega (arith, even))
next-append (suc m) (a ∷ (b ∷ xs)) ys even = ap (λ t. node_hash a b ∷ t) (next-append m xs ys (omega (arith, even)))

-- and so up to the level at which the first part is few
pub levels-append : (i m : ℕ) (xs ys : List (List ℕ)) → length xs ≡ 2 ^ i * m
    → levels_up i (xs ++ ys) ≡ levels_up i xs ++ levels_up i ys
unfolding levels_up
levels-append zero m xs ys is = refl
levels-append (suc i) m xs ys is =
    let twice : length xs ≡ 2 * (2 ^ i * m) = omega (arith, is, pow-double i m) in
    let half : length (next_level xs) ≡ 2 ^ i * m = let h = next-length xs in omega (arith, h.0, h.1, twice) in
    ap (levels_up i) (next-append (2 ^ i * m) xs ys twice) ∙ levels-append i m (next_level xs) (next_level ys) half

-- up to 2 ^ i hashes are one after i levels
pub levels-one : (i : ℕ) (hs : List (List ℕ)) → 0 < length hs → length hs ≤ 2 ^ i → length (levels_up i hs) ≡ 1
unfolding levels_up
levels-one zero hs some few = omega (arith, few)
levels-one (suc i) hs some few =
    let h = next-length hs in
    levels-one i (next_level hs) (omega (arith, h.0, some)) (omega (arith, h.1, few, pow-double i 1))

-- a level more, at the top
pub levels-next : (i : ℕ) (hs : List (List ℕ)) → levels_up (suc i) hs ≡ next_level (levels_up i hs)
unfolding levels_up
levels-next zero hs = refl
levels-next (suc i) hs = levels-next i (next_level hs)

-- one hash stays itself
pub one-stays : (i n : ℕ) (hs : List (List ℕ)) (h : List ℕ) → levels_up i hs ≡ h ∷ [] → i ≤ n → levels_up n hs ≡ h ∷ []
unfolding next_level
one-stays i zero hs h is below = let e : zero ≡ i = omega (arith, below) in ap (λ k. levels_up k hs) e ∙ is
one-stays i (suc n) hs h is below =
    elim (cases_lt n i) [
      | inl above ↦ let e : suc n ≡ i = omega (arith, below, above) in ap (λ k. levels_up k hs) e ∙ is
      | inr under ↦ levels-next n hs ∙ ap next_level (one-stays i n hs h is under)
    ]

one-item : (hs : List (List ℕ)) → length hs ≡ 1 → hs ≡ get_or hs 0 [] ∷ []
one-item [] one = absurd (omega (arith, one))
one-item (h ∷ []) one = refl
one-item (h ∷ (k ∷ hs)) one = absurd (omega (arith, one))

pub below-power : (n : ℕ) → n ≤ 2 ^ n
below-power zero = omega arith
below-power (suc n) = omega (arith, below-power n, pow-double n 1, pow_pos n)

first-of : (h k : List ℕ) → h ∷ [] ≡ k ∷ [] → h ≡ k
first-of h k e = cc

-- one hash is left at last
pub one-left : (hs : List (List ℕ)) → 0 < length hs → levels_up (length hs) hs ≡ merkle_root hs ∷ []
unfolding merkle_root
one-left hs some = one-item (levels_up (length hs) hs) (levels-one (length hs) hs some (below-power (length hs)))

-- the one hash that some level leaves is the root
pub root-is : (i : ℕ) (hs : List (List ℕ)) (h : List ℕ) → 0 < length hs → levels_up i hs ≡ h ∷ [] → h ≡ merkle_root hs
unfolding merkle_root
root-is i hs h some is =
    let n = length hs in
    let last = one-left hs some in
    first-of h (merkle_root hs)
    (sym (one-stays i (i + n) hs h is (omega arith)) ∙ one-stays n (i + n) hs (merkle_root hs) last (omega arith))

-- up to 2 ^ i hashes leave their root after i levels
pub levels-root : (i : ℕ) (hs : List (List ℕ)) → 0 < length hs → length hs ≤ 2 ^ i
    → levels_up i hs ≡ merkle_root hs ∷ []
levels-root i hs some few =
    let one = one-item (levels_up i hs) (levels-one i hs some few) in
    one ∙ ap (λ h. h ∷ []) (root-is i hs (get_or (levels_up i hs) 0 []) some one)

-- the law of the split, at a power of two
split-at : (hs : List (List ℕ)) (j : ℕ) → 2 ^ j < length hs → length hs ≤ 2 * 2 ^ j
    → merkle_root hs ≡ node_hash (merkle_root (take (2 ^ j) hs)) (merkle_root (drop (2 ^ j) hs))
unfolding next_level
split-at hs j below most =
    let k = 2 ^ j in
    let prefix = take k hs in
    let back = drop k hs in
    let front_len : length prefix ≡ k = omega (arith, length-take k hs, below) in
    let back_len : length back ≡ length hs - k = length-drop k hs in
    let prefix_up = levels-root j prefix (omega (arith, front_len, pow_pos j)) (omega (arith, front_len)) in
    let back_up = levels-root j back (omega (arith, back_len, below)) (omega (arith, back_len, most)) in
    let parts : levels_up j hs ≡ levels_up j prefix ++ levels_up j back =
    ap (levels_up j) (sym (take-append-drop k hs)) ∙ levels-append j 1 prefix back (omega (arith, front_len)) in
    let both : levels_up j hs ≡ merkle_root prefix ∷ (merkle_root back ∷ []) =
    parts ∙ ap (λ t. t ++ levels_up j back) prefix_up ∙ ap (λ t. merkle_root prefix ∷ t) back_up in
    sym (root-is (suc j) hs (node_hash (merkle_root prefix) (merkle_root back)) (omega (arith, below))
    (levels-next j hs ∙ ap next_level both))

-- the law of the split
pub root-split : (hs : List (List ℕ)) (k : ℕ) → IsGreatestPowerBelow k (length hs)
    → merkle_root hs ≡ node_hash (merkle_root (take k hs)) (merkle_root (drop k hs))
root-split hs k is =
    let j = is.power.0 in
    let e : k ≡ 2 ^ j = is.power.1 in
    subst (λ (p : ℕ). merkle_root hs ≡ node_hash (merkle_root (take p hs)) (merkle_root (drop p hs))) (sym e)
    (split-at hs j (subst (λ (p : ℕ). p < length hs) e is.below) (subst (λ (p : ℕ). length hs ≤ 2 * p) e is.greatest))
