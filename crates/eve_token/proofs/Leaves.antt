-- The hashes of a list's leaves, where the list is cut or changed.
use Rattle.std.proofs.Common.{◌≡◌, ℕ, zero, suc, ◌+◌, List, [], ◌∷◌, length, take, drop, set, get_or, refl, sym, ap}
use Rattle.std.proofs.Common.{subst, ◌∙◌, arith}
use Rattle.eve_token.specs.Merkle.{leaf_hash, node_hash, leaf_hashes, next_level, levels_up, merkle_root}
use Rattle.eve_token.specs.Merkle.{IsGreatestPowerBelow}
use Rattle.eve_token.proofs.Levels.{root-split}

-- the root of one hash
pub root-one : (h : List ℕ) → merkle_root (h ∷ []) ≡ h
unfolding merkle_root levels_up next_level
root-one h = refl

module _ (X : Type 0) (text : X → List ℕ) where
  pub leaves-length : (n : ℕ) (xs : List X) → length (leaf_hashes text n xs) ≡ length xs
  unfolding leaf_hashes
  leaves-length n [] = refl
  leaves-length n (x ∷ xs) = ap suc (leaves-length (n + 1) xs)

  pub leaves-take : (k n : ℕ) (xs : List X) → take k (leaf_hashes text n xs) ≡ leaf_hashes text n (take k xs)
  unfolding leaf_hashes
  leaves-take zero n xs = refl
  leaves-take (suc k) n [] = refl
  leaves-take (suc k) n (x ∷ xs) = ap (λ t. leaf_hash n (text x) ∷ t) (leaves-take k (n + 1) xs)

  pub leaves-drop : (k n m : ℕ) (xs : List X) → m ≡ n + k
      → drop k (leaf_hashes text n xs) ≡ leaf_hashes text m (drop k xs)
  unfolding leaf_hashes
  leaves-drop zero n m xs is = let e : n ≡ m = omega (arith, is) in ap (λ j. leaf_hashes text j xs) e
  leaves-drop (suc k) n m [] is = refl
  leaves-drop (suc k) n m (x ∷ xs) is = leaves-drop k (n + 1) m xs (omega (arith, is))

  pub leaves-set : (i n m : ℕ) (xs : List X) (x : X) → m ≡ n + i
      → leaf_hashes text n (set xs i x) ≡ set (leaf_hashes text n xs) i (leaf_hash m (text x))
  unfolding leaf_hashes
  leaves-set i n m [] x is = refl
  leaves-set zero n m (y ∷ xs) x is = let e : n
      ≡ m = omega (arith, is) in ap (λ j. leaf_hash j (text x) ∷ leaf_hashes text (n + 1) xs) e
  leaves-set (suc i) n m (y ∷ xs) x is = ap (λ t. leaf_hash n (text y) ∷ t)
      (leaves-set i (n + 1) m xs x (omega (arith, is)))

  -- one leaf
  pub leaves-one : (n : ℕ) (xs : List X) (x : X) → length xs ≡ 1 → x ≡ get_or xs 0 x
      → leaf_hashes text n xs ≡ leaf_hash n (text x) ∷ []
  unfolding leaf_hashes
  leaves-one n [] x one is = absurd (omega (arith, one))
  leaves-one n (y ∷ []) x one is = ap (λ z. leaf_hash n (text z) ∷ []) (sym is)
  leaves-one n (y ∷ (z ∷ xs)) x one is = absurd (omega (arith, one))

  pub leaves-one-root : (n : ℕ) (xs : List X) (x : X) → length xs ≡ 1 → x ≡ get_or xs 0 x
      → merkle_root (leaf_hashes text n xs) ≡ leaf_hash n (text x)
  leaves-one-root n xs x one is = ap merkle_root (leaves-one n xs x one is) ∙ root-one (leaf_hash n (text x))

  -- the greatest power below the number of leaves
  pub leaves-power : (k n : ℕ) (xs : List X) → IsGreatestPowerBelow k (length xs)
      → IsGreatestPowerBelow k (length (leaf_hashes text n xs))
  leaves-power k n xs is = subst (IsGreatestPowerBelow k) (sym (leaves-length n xs)) is

  -- the root over the leaves is the node of the roots over the two parts
  pub leaves-root : (k n : ℕ) (xs : List X) → IsGreatestPowerBelow k (length xs)
      → merkle_root (leaf_hashes text n xs)
      ≡ node_hash (merkle_root (leaf_hashes text n (take k xs)))
      (merkle_root (leaf_hashes text (n + k) (drop k xs)))
  leaves-root k n xs is =
      root-split (leaf_hashes text n xs) k (leaves-power k n xs is)
      ∙ ap (λ hs. node_hash (merkle_root hs) (merkle_root (drop k (leaf_hashes text n xs)))) (leaves-take k n xs)
      ∙ ap (λ hs. node_hash (merkle_root (leaf_hashes text n (take k xs))) (merkle_root hs))
      (leaves-drop k n (n + k) xs refl)
