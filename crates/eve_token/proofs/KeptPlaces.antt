-- A tree's places and those of its two parts: what is kept in the one is kept in the others.
use Rattle.std.proofs.Common.{◌≡◌, ℕ, ℤ, zero, suc, ◌+◌, ◌-◌, ◌*◌, ◌<◌, ◌≤◌, List, [], ◌∷◌, ◌++◌, length, take, drop}
use Rattle.std.proofs.Common.{set, get_or, replicate, slice_get, Option, Some, None, IfSome, refl, sym, ap, subst, ◌∙◌}
use Rattle.std.proofs.Common.{arith, length-append, length-take, length-drop, length-set}
use Rattle.std.proofs.lemmas.List.{append-nil, append_assoc, length-replicate, drop-drop, drop_all, drop_at, drop_more}
use Rattle.std.proofs.lemmas.List.{drop-set, drop-set-add, drop-set-lt, set_at, take_at, take-set-le, take_more_set}
use Rattle.std.proofs.lemmas.List.{take_rest}
use Rattle.std.proofs.lemmas.Option.{same_Some}
use borrow.Rule.Slice.PartMut.{put_mid}
use Rattle.eve_smallbank.specs.Spelling.{money_text}
use Rattle.eve_token.specs.Merkle.{leaf_hash, leaf_hashes, merkle_root, IsGreatestPowerBelow}
use Rattle.eve_token.specs.Places.{nodes_of, HaveHashes, IsRowTree}
use Rattle.eve_token.proofs.Leaves.{leaves-length, leaves-set}
use Rattle.eve_token.proofs.Places.{nodes-split, nodes-count, nodes-one, kept-stale, kept-join, kept-left, kept-top}
use Rattle.eve_token.proofs.Places.{kept-right}

take-of_set : (n i : ℕ) (xs : List (List ℕ)) (a : List ℕ) → take n (set xs i a) ≡ set (take n xs) i a
take-of_set zero i xs a = refl
take-of_set (suc n) i [] a = refl
take-of_set (suc n) zero (x ∷ xs) a = refl
take-of_set (suc n) (suc i) (x ∷ xs) a = ap (λ t. x ∷ t) (take-of_set n i xs a)

-- a tree over these hashes has its node at the place top, and k of them in its left part
module _ (hs : List (List ℕ)) (k top : ℕ) (is : IsGreatestPowerBelow k (length hs)) (at : top + 1 ≡ 2 * k) where
  left-count : length (nodes_of (take k hs)) ≡ top
  left-count =
      let len : length (take k hs) ≡ k = omega (arith, length-take k hs, is.below) in
      let count = nodes-count (take k hs) (omega (arith, len, at)) in
      omega (arith, count, len, at)

  pub part-left : (ps : List (Option (List ℕ))) → HaveHashes ps (nodes_of hs)
      → HaveHashes (take top ps) (nodes_of (take k hs))
  part-left ps kept =
      subst (λ (n : ℕ). HaveHashes (take n ps) (nodes_of (take k hs))) left-count
      (kept-left (nodes_of (take k hs)) (merkle_root hs) (nodes_of (drop k hs)) ps
      (subst (HaveHashes ps) (nodes-split hs k is) kept))

  pub part-top : (ps : List (Option (List ℕ))) → HaveHashes ps (nodes_of hs)
      → IfSome (get_or ps top None) (λ h. h ≡ merkle_root hs)
  part-top ps kept =
      subst (λ (n : ℕ). IfSome (get_or ps n None) (λ h. h ≡ merkle_root hs)) left-count
      (kept-top (nodes_of (take k hs)) (merkle_root hs) (nodes_of (drop k hs)) ps
      (subst (HaveHashes ps) (nodes-split hs k is) kept))

  pub part-right : (ps : List (Option (List ℕ))) → HaveHashes ps (nodes_of hs)
      → HaveHashes (drop (top + 1) ps) (nodes_of (drop k hs))
  part-right ps kept =
      subst (λ (n : ℕ). HaveHashes (drop (n + 1) ps) (nodes_of (drop k hs))) left-count
      (kept-right (nodes_of (take k hs)) (merkle_root hs) (nodes_of (drop k hs)) ps
      (subst (HaveHashes ps) (nodes-split hs k is) kept))

  -- and back
  pub joined : (left : List (Option (List ℕ))) (p : Option (List ℕ)) (right : List (Option (List ℕ)))
      → HaveHashes left (nodes_of (take k hs))
      → IfSome p (λ h. h ≡ merkle_root hs) → HaveHashes right (nodes_of (drop k hs))
      → HaveHashes (left ++ (p ∷ right)) (nodes_of hs)
  joined left p right low here high =
      subst (HaveHashes (left ++ (p ∷ right))) (sym (nodes-split hs k is))
      (kept-join left (nodes_of (take k hs)) p (merkle_root hs) right (nodes_of (drop k hs)) low here high)

-- ---- one leaf

one-node : (hs : List (List ℕ)) → length hs ≡ 1 → nodes_of hs ≡ get_or hs 0 [] ∷ []
one-node [] one = absurd (omega (arith, one))
one-node (h ∷ []) one = nodes-one h
one-node (h ∷ (k ∷ hs)) one = absurd (omega (arith, one))

one-place : (ps : List (Option (List ℕ))) (h : List ℕ) → HaveHashes ps (h ∷ []) → ps ≡ get_or ps 0 None ∷ []
unfolding HaveHashes
one-place [] h kept = absurd kept
one-place (p ∷ []) h kept = refl
one-place (p ∷ (q ∷ ps)) h kept = absurd kept.1

pub leaf-place : (ps : List (Option (List ℕ))) (h : List ℕ) → HaveHashes ps (nodes_of (h ∷ []))
    → IfSome (get_or ps 0 None) (λ x. x ≡ h)
leaf-place ps h kept = kept-top [] h [] ps (subst (HaveHashes ps) (nodes-one h) kept)

pub leaf-kept : (ps : List (Option (List ℕ))) (h : List ℕ) → HaveHashes ps (nodes_of (h ∷ []))
    → HaveHashes (set ps 0 (Some h)) (nodes_of (h ∷ []))
unfolding HaveHashes
leaf-kept ps h kept =
    let whole = one-place ps h (subst (HaveHashes ps) (nodes-one h) kept) in
    subst (HaveHashes (set ps 0 (Some h))) (sym (nodes-one h))
    (subst (λ (qs : List (Option (List ℕ))). HaveHashes (set qs 0 (Some h)) (h ∷ [])) (sym whole) (refl, tt))

pub leaf-stale : (ps : List (Option (List ℕ))) (hs : List (List ℕ)) (i : ℕ) (h : List ℕ) → length hs ≡ 1
    → HaveHashes ps (nodes_of hs) → HaveHashes (set ps 0 None) (nodes_of (set hs i h))
unfolding HaveHashes
leaf-stale ps hs i h one kept =
    let whole = one-place ps (get_or hs 0 []) (subst (HaveHashes ps) (one-node hs one) kept) in
    subst (HaveHashes (set ps 0 None)) (sym (one-node (set hs i h) (length-set hs i h ∙ one)))
    (subst (λ (qs : List (Option (List ℕ))). HaveHashes (set qs 0 None) (get_or (set hs i h) 0 [] ∷ [])) (sym whole)
    (tt, tt))

-- ---- a leaf of a part changed: the part is kept, the node is stale, and the other part is as it was

pub left-stale : (hs : List (List ℕ)) (k top i : ℕ) (h : List ℕ) (old left : List (Option (List ℕ)))
    → IsGreatestPowerBelow k (length hs) → top + 1 ≡ 2 * k → i < k
    → top < length old → HaveHashes left (nodes_of (set (take k hs) i h)) → HaveHashes old (nodes_of hs)
    → HaveHashes (left ++ drop top (set old top None)) (nodes_of (set hs i h))
left-stale hs k top i h old left is at low inside changed kept =
    let wide = subst (IsGreatestPowerBelow k) (sym (length-set hs i h)) is in
    subst (λ (t : List (Option (List ℕ))). HaveHashes (left ++ t) (nodes_of (set hs i h)))
    (sym (drop-set old top None inside))
    (joined (set hs i h) k top wide at left None (drop (top + 1) old)
    (subst (λ (t : List (List ℕ)). HaveHashes left (nodes_of t)) (sym (take-of_set k i hs h)) changed)
    tt
    (subst (λ (t : List (List ℕ)). HaveHashes (drop (top + 1) old) (nodes_of t)) (sym (drop-set-lt k hs i h low))
    (part-right hs k top is at old kept)))

-- what stands after a write to all places from top + 1 on
after-rest : (top : ℕ) (xs right : List (Option (List ℕ)))
    → put_mid (top + 1) (length xs - (top + 1)) xs right ≡ take (top + 1) xs ++ right
after-rest top xs right =
    ap (λ t. take (top + 1) xs ++ (right ++ t))
    (drop_all (length xs - (top + 1)) (drop (top + 1) xs) (omega (arith, length-drop (top + 1) xs)))
    ∙ ap (λ t. take (top + 1) xs ++ t) (append-nil right)

-- what a call is lent that gets all places from top + 1 on
pub rest-after : (top : ℕ) (xs : List (Option (List ℕ))) (x : Option (List ℕ))
    → take (length (set xs top x) - (top + 1)) (drop (top + 1) (set xs top x)) ≡ drop (top + 1) xs
rest-after top xs x = take_rest (set xs top x) (top + 1) ∙ drop-set-lt (top + 1) xs top x (omega arith)

pub rest-joined : (top : ℕ) (old left : List (Option (List ℕ))) → length left ≡ top
    → take (length (left ++ drop top old) - (top + 1)) (drop (top + 1) (left ++ drop top old)) ≡ drop (top + 1) old
rest-joined top old left long =
    take_rest (left ++ drop top old) (top + 1)
    ∙ sym (drop-drop 1 top (left ++ drop top old))
    ∙ ap (drop 1) (drop_at left (drop top old) top long)
    ∙ drop-drop 1 top old

pub right-stale : (hs : List (List ℕ)) (k top i : ℕ) (h : List ℕ) (old right : List (Option (List ℕ)))
    → IsGreatestPowerBelow k (length hs) → top + 1 ≡ 2 * k → k ≤ i
    → top < length old → HaveHashes right (nodes_of (set (drop k hs) (i - k) h)) → HaveHashes old (nodes_of hs)
    → HaveHashes (put_mid (top + 1) (length (set old top None) - (top + 1)) (set old top None) right)
    (nodes_of (set hs i h))
right-stale hs k top i h old right is at high inside changed kept =
    let wide = subst (IsGreatestPowerBelow k) (sym (length-set hs i h)) is in
    let e : k + (i - k) ≡ i = omega (arith, high) in
    let moved : drop k (set hs i h) ≡ set (drop k hs) (i - k) h =
    ap (λ n. drop k (set hs n h)) (sym e) ∙ drop-set-add k hs (i - k) h in
    let places : put_mid (top + 1) (length (set old top None) - (top + 1)) (set old top None) right
    ≡ take top old ++ (None ∷ right) =
    after-rest top (set old top None) right ∙ ap (λ t. t ++ right) (take_more_set old top None inside)
    ∙ append_assoc (take top old) (None ∷ []) right in
    subst (λ (t : List (Option (List ℕ))). HaveHashes t (nodes_of (set hs i h))) (sym places)
    (joined (set hs i h) k top wide at (take top old) None right
    (subst (λ (t : List (List ℕ)). HaveHashes (take top old) (nodes_of t)) (sym (take-set-le k hs i h high))
    (part-left hs k top is at old kept))
    tt
    (subst (λ (t : List (List ℕ)). HaveHashes right (nodes_of t)) (sym moved) changed))

-- ---- both parts and the node hashed

pub rebuilt : (top : ℕ) (old left right : List (Option (List ℕ))) (x : Option (List ℕ)) → top < length old
    → length left ≡ top
    → set (put_mid (top + 1) (length (left ++ drop top old) - (top + 1)) (left ++ drop top old) right) top x
    ≡ left ++ (x ∷ right)
rebuilt top old left right x inside long =
    let here = get_or old top None in
    let cut : left ++ drop top old ≡ left ++ (here ∷ drop (top + 1) old) = ap (λ t. left ++ t)
    (drop_more old top None inside) in
    let longer : length (left ++ (here ∷ [])) ≡ top + 1 = length-append left (here ∷ []) ∙ omega (arith, long) in
    let prefix : take (top + 1) (left ++ drop top old) ≡ left ++ (here ∷ []) =
    ap (take (top + 1)) (cut ∙ sym (append_assoc left (here ∷ []) (drop (top + 1) old)))
    ∙ take_at (left ++ (here ∷ [])) (drop (top + 1) old) (top + 1) longer in
    ap (λ t. set t top x) (after-rest top (left ++ drop top old) right ∙ ap (λ t. t ++ right) prefix
    ∙ append_assoc left (here ∷ []) right)
    ∙ set_at left here right x top long

-- ---- the whole tree

same-balance : (bs : List ℤ) (i : ℕ) (z : ℤ) → slice_get bs i ≡ Some z → bs ≡ set bs i z
same-balance [] i z is = refl
same-balance (b ∷ bs) zero z is = ap (λ x. x ∷ bs) (same_Some b z is)
same-balance (b ∷ bs) (suc i) z is = ap (λ t. b ∷ t) (same-balance bs i z is)

-- the same balance again
pub nothing-changed : (bs : List ℤ) (i : ℕ) (y z : ℤ) → slice_get bs i ≡ Some y → y ≡ z → bs ≡ set bs i z
nothing-changed bs i y z is same = same-balance bs i z (is ∙ ap (λ (x : ℤ). Some x) same)

-- another balance, with its leaf and the nodes above it stale
pub row-changed : (bs : List ℤ) (old new : List (Option (List ℕ))) (i : ℕ) (z : ℤ) → IsRowTree bs old
    → length new ≡ length old
    → ((hs : List (List ℕ)) (h : List ℕ) → length hs ≡ length bs → HaveHashes old (nodes_of hs)
    → HaveHashes new (nodes_of (set hs i h))) → IsRowTree (set bs i z) new
row-changed bs old new i z tree long marked =
    let hs = leaf_hashes money_text 0 bs in
    let rows : length (set bs i z) ≡ length bs = length-set bs i z in
    record {
      some = omega (arith, rows, tree.some);
      whole = omega (arith, rows, long, tree.whole);
      kept = subst (λ (t : List (List ℕ)). HaveHashes new (nodes_of t))
          (sym (leaves-set ℤ money_text i 0 i bs z (omega arith)))
          (marked hs (leaf_hash i (money_text z)) (leaves-length ℤ money_text 0 bs) tree.kept);
    }

-- a tree in which all is stale
pub all-stale : (bs : List ℤ) (n : ℕ) → 0 < length bs → n + 1 ≡ 2 * length bs → IsRowTree bs (replicate n None)
all-stale bs n some whole =
    let hs = leaf_hashes money_text 0 bs in
    let leaves = leaves-length ℤ money_text 0 bs in
    let count : length (nodes_of hs) ≡ n = omega (arith, leaves, whole, nodes-count hs (omega (arith, leaves, some))) in
    record {
      some = some;
      whole = omega (arith, whole, length-replicate {A = Option (List ℕ)} n None);
      kept = subst (λ (m : ℕ). HaveHashes (replicate m None) (nodes_of hs)) count (kept-stale (nodes_of hs));
    }
