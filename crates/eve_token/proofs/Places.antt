-- The places of a tree's nodes: how they split where the tree does, and what a write or a hash leaves of them.
use Rattle.std.proofs.Common.{◌≡◌, ℕ, zero, suc, ◌+◌, ◌-◌, ◌*◌, ◌^◌, ◌<◌, ◌≤◌, List, [], ◌∷◌, ◌++◌, length, take, drop}
use Rattle.std.proofs.Common.{get_or, replicate, Option, None, IfSome, refl, sym, ap, subst, ◌∙◌, inl, inr, arith}
use Rattle.std.proofs.Common.{length-append, length-take, length-drop}
use Rattle.std.proofs.lemmas.Bool.{cases_lt, le-leb, lt-leb}
use Rattle.std.proofs.lemmas.Nat.{pow_pos}
use Rattle.std.proofs.Math.Nat.{pow-le-pow_right}
use Rattle.eve_token.specs.Merkle.{merkle_root, IsGreatestPowerBelow}
use Rattle.eve_token.specs.Places.{nodes_within, nodes_of, HaveHashes}
use Rattle.eve_token.proofs.Levels.{below-power, pow-double}

-- ---- nodes

enough : (d : ℕ) (hs : List (List ℕ)) → length hs ≤ 2 ^ d → nodes_within (suc d) hs ≡ nodes_within d hs
unfolding nodes_within
enough d hs few = rw (le-leb (length hs) (2 ^ d) few)

cut : (d : ℕ) (hs : List (List ℕ)) → 2 ^ d < length hs
    → nodes_within (suc d) hs ≡ nodes_within d (take (2 ^ d) hs) ++ (merkle_root hs ∷ nodes_within d (drop (2 ^ d) hs))
unfolding nodes_within
cut d hs more = rw (lt-leb (length hs) (2 ^ d) more)

-- a depth that is enough for the leaves is as good as a greater one
within-stays : (i n : ℕ) (hs : List (List ℕ)) → length hs ≤ 2 ^ i → i ≤ n → nodes_within n hs ≡ nodes_within i hs
unfolding nodes_within
within-stays i zero hs few below = let e : zero ≡ i = omega (arith, below) in ap (λ k. nodes_within k hs) e
within-stays i (suc n) hs few below =
    elim (cases_lt n i) [
      | inl above ↦ let e : suc n ≡ i = omega (arith, below, above) in ap (λ k. nodes_within k hs) e
      | inr under ↦
          let wide : 2 ^ i ≤ 2 ^ n = pow-le-pow_right (omega arith) under in
          enough n hs (omega (arith, few, wide)) ∙ within-stays i n hs few under
    ]

-- two depths that are enough
within-any : (i j : ℕ) (hs : List (List ℕ)) → length hs ≤ 2 ^ i → length hs ≤ 2 ^ j
    → nodes_within i hs ≡ nodes_within j hs
within-any i j hs few too = sym (within-stays i (i + j) hs few (omega arith))
    ∙ within-stays j (i + j) hs too (omega arith)

-- the nodes split where the tree does
nodes-split-at : (hs : List (List ℕ)) (j : ℕ) → 2 ^ j < length hs → length hs ≤ 2 * 2 ^ j
    → nodes_of hs ≡ nodes_of (take (2 ^ j) hs) ++ (merkle_root hs ∷ nodes_of (drop (2 ^ j) hs))
nodes-split-at hs j below most =
    let k = 2 ^ j in
    let prefix = take k hs in
    let back = drop k hs in
    let prefix_few : length prefix ≤ k = omega (arith, length-take k hs) in
    let back_few : length back ≤ k = omega (arith, length-drop k hs, most) in
    within-any (length hs) (suc j) hs (below-power (length hs)) (omega (arith, most, pow-double j 1))
    ∙ cut j hs below
    ∙ ap (λ t. t ++ (merkle_root hs ∷ nodes_within j back))
    (within-any j (length prefix) prefix prefix_few (below-power (length prefix)))
    ∙ ap (λ t. nodes_of prefix ++ (merkle_root hs ∷ t))
    (within-any j (length back) back back_few (below-power (length back)))

pub nodes-split : (hs : List (List ℕ)) (k : ℕ) → IsGreatestPowerBelow k (length hs)
    → nodes_of hs ≡ nodes_of (take k hs) ++ (merkle_root hs ∷ nodes_of (drop k hs))
nodes-split hs k is =
    let j = is.power.0 in
    let e : k ≡ 2 ^ j = is.power.1 in
    subst (λ (p : ℕ). nodes_of hs ≡ nodes_of (take p hs) ++ (merkle_root hs ∷ nodes_of (drop p hs))) (sym e)
    (nodes-split-at hs j (subst (λ (p : ℕ). p < length hs) e is.below)
    (subst (λ (p : ℕ). length hs ≤ 2 * p) e is.greatest))

nodes-count-within : (d : ℕ) (hs : List (List ℕ)) → 0 < length hs → length hs ≤ 2 ^ d
    → length (nodes_within d hs) + 1 ≡ 2 * length hs
unfolding nodes_within
nodes-count-within zero hs some few = omega (arith, some, few)
nodes-count-within (suc d) hs some few =
    elim (cases_lt (2 ^ d) (length hs)) [
      | inl more ↦
          let prefix = take (2 ^ d) hs in
          let back = drop (2 ^ d) hs in
          let front_len : length prefix ≡ 2 ^ d = omega (arith, length-take (2 ^ d) hs, more) in
          let back_len : length back ≡ length hs - 2 ^ d = length-drop (2 ^ d) hs in
          let left = nodes-count-within d prefix (omega (arith, front_len, pow_pos d)) (omega (arith, front_len)) in
          let right = nodes-count-within d back (omega (arith, back_len, more))
          (omega (arith, back_len, few, pow-double d 1)) in
          let all : length (nodes_within (suc d) hs)
          ≡ length (nodes_within d prefix) + suc (length (nodes_within d back)) =
          ap length (cut d hs more) ∙ length-append (nodes_within d prefix) (merkle_root hs ∷ nodes_within d back) in
          omega (arith, all, left, right, front_len, back_len, more)
      | inr enough_here ↦
          let same = ap length (enough d hs enough_here) in
          omega (arith, same, nodes-count-within d hs some enough_here)
    ]

-- of n leaves there are 2n - 1 nodes
pub nodes-count : (hs : List (List ℕ)) → 0 < length hs → length (nodes_of hs) + 1 ≡ 2 * length hs
nodes-count hs some = nodes-count-within (length hs) hs some (below-power (length hs))

pub nodes-one : (h : List ℕ) → nodes_of (h ∷ []) ≡ h ∷ []
unfolding nodes_within
nodes-one h = refl

-- ---- places

pub kept-stale : (hs : List (List ℕ)) → HaveHashes (replicate (length hs) None) hs
unfolding HaveHashes
kept-stale [] = tt
kept-stale (h ∷ hs) = (tt, kept-stale hs)

pub kept-join : (ps : List (Option (List ℕ))) (ls : List (List ℕ)) (p : Option (List ℕ)) (b : List ℕ)
    (qs : List (Option (List ℕ))) (cs : List (List ℕ))
    → HaveHashes ps ls → IfSome p (λ x. x ≡ b) → HaveHashes qs cs → HaveHashes (ps ++ (p ∷ qs)) (ls ++ (b ∷ cs))
unfolding HaveHashes
kept-join [] [] p b qs cs left here right = (here, right)
kept-join [] (a ∷ ls) p b qs cs left here right = absurd left
kept-join (q ∷ ps) [] p b qs cs left here right = absurd left
kept-join (q ∷ ps) (a ∷ ls) p b qs cs left here right = (left.0, kept-join ps ls p b qs cs left.1 here right)

pub kept-left : (ls : List (List ℕ)) (b : List ℕ) (cs : List (List ℕ)) (ps : List (Option (List ℕ)))
    → HaveHashes ps (ls ++ (b ∷ cs)) → HaveHashes (take (length ls) ps) ls
unfolding HaveHashes
kept-left [] b cs ps kept = tt
kept-left (a ∷ ls) b cs [] kept = absurd kept
kept-left (a ∷ ls) b cs (p ∷ ps) kept = (kept.0, kept-left ls b cs ps kept.1)

pub kept-top : (ls : List (List ℕ)) (b : List ℕ) (cs : List (List ℕ)) (ps : List (Option (List ℕ)))
    → HaveHashes ps (ls ++ (b ∷ cs)) → IfSome (get_or ps (length ls) None) (λ x. x ≡ b)
unfolding HaveHashes
kept-top [] b cs [] kept = absurd kept
kept-top [] b cs (p ∷ ps) kept = kept.0
kept-top (a ∷ ls) b cs [] kept = absurd kept
kept-top (a ∷ ls) b cs (p ∷ ps) kept = kept-top ls b cs ps kept.1

pub kept-right : (ls : List (List ℕ)) (b : List ℕ) (cs : List (List ℕ)) (ps : List (Option (List ℕ)))
    → HaveHashes ps (ls ++ (b ∷ cs)) → HaveHashes (drop (length ls + 1) ps) cs
unfolding HaveHashes
kept-right [] b cs [] kept = absurd kept
kept-right [] b cs (p ∷ ps) kept = kept.1
kept-right (a ∷ ls) b cs [] kept = absurd kept
kept-right (a ∷ ls) b cs (p ∷ ps) kept =
    let e : suc (length ls + 1) ≡ suc (length ls) + 1 = omega arith in
    subst (λ (n : ℕ). HaveHashes (drop n (p ∷ ps)) cs) e (kept-right ls b cs ps kept.1)
