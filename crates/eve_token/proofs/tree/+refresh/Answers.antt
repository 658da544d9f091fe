use Rattle.std.proofs.Common.{rules, ◌≡◌, ◌+◌, ◌*◌, ◌-◌, ℕ, ℤ, List, length, take, drop, Option, Some, None, IfSome}
use Rattle.std.proofs.Common.{sym, subst, ap, ◌∙◌, arith, length-take, length-drop, get_or, set, refl, [], ◌∷◌, ◌++◌}
use Rattle.eve_smallbank.specs.Spelling.{money_text}
use Rattle.eve_token.specs.Merkle.{leaf_hash, leaf_hashes, merkle_root}
use Rattle.eve_token.specs.Places.{HaveHashes, nodes_of}
use Rattle.eve_token.proofs.Leaves.{leaves-one, leaves-one-root, leaves-root, leaves-power, leaves-take, leaves-drop}
use Rattle.eve_token.proofs.KeptPlaces.{leaf-place, leaf-kept, part-left, part-top, part-right, joined, rebuilt}
use Rattle.eve_token.proofs.KeptPlaces.{rest-joined}
use Rattle.eve_token.proofs.tree.+refresh.Goals as goal

pub refresh_leaf-requires : goal.refresh_leaf-requires
refresh_leaf-requires t c =
    let n = c.args.number in
    let bs = c.args.balances.now in
    let b = c.index-balances-0.result in
    leaf-place c.args.nodes.now (leaf_hash n (money_text b))
    (subst (λ (hs : List (List ℕ)). HaveHashes c.args.nodes.now (nodes_of hs))
    (leaves-one ℤ money_text n bs b (omega arith) c.index-balances-0.is) c.requires.kept)

pub returns-then-balances-eq1-clause-root : goal.returns-then-balances-eq1-clause-root
returns-then-balances-eq1-clause-root t c =
    c.refresh_leaf.ensures.value ∙ sym (leaves-one-root ℤ money_text c.args.number c.args.balances.now
    c.index-balances-0.result (omega arith) c.index-balances-0.is)

pub returns-then-balances-eq1-clause-kept : goal.returns-then-balances-eq1-clause-kept
returns-then-balances-eq1-clause-kept t c =
    let n = c.args.number in
    let bs = c.args.balances.now in
    let b = c.index-balances-0.result in
    let h = leaf_hash n (money_text b) in
    let one = leaves-one ℤ money_text n bs b (omega arith) c.index-balances-0.is in
    let node : c.refresh_leaf.new.node ≡ Some h = c.refresh_leaf.ensures.kept
    ∙ ap (λ (x : List ℕ). Some x) c.refresh_leaf.ensures.value in
    subst (λ (hs : List (List ℕ)). HaveHashes (set c.args.nodes.now 0 c.refresh_leaf.new.node) (nodes_of hs)) (sym one)
    (subst (λ (p : Option (List ℕ)). HaveHashes (set c.args.nodes.now 0 p) (nodes_of (h ∷ []))) (sym node)
    (leaf-kept c.args.nodes.now h (subst (λ (hs : List (List ℕ)). HaveHashes c.args.nodes.now (nodes_of hs)) one
    c.requires.kept)))

pub returns-in-Some-clause-root : goal.returns-in-Some-clause-root
returns-in-Some-clause-root t c =
    let n = c.args.number in
    let bs = c.args.balances.now in
    let k = c.left_part-part.result in
    let is = c.left_part-part.ensures in
    let top = 2 * k - 1 in
    let at : top + 1 ≡ 2 * k = omega (arith, is.below, is.greatest) in
    let hs = leaf_hashes money_text n bs in
    let h : IfSome (get_or c.args.nodes.now top None) (λ h. h ≡ merkle_root hs) = part-top hs k top
    (leaves-power ℤ money_text k n bs is) at c.args.nodes.now c.requires.kept in
    let found : get_or c.args.nodes.now top None ≡ Some c.in-Some.hash = c.in-Some.is in
    subst (λ (p : Option (List ℕ)). IfSome p (λ x. x ≡ merkle_root hs)) found h

pub refresh-left_root-requires : goal.refresh-left_root-requires
refresh-left_root-requires t c =
    let n = c.args.number in
    let bs = c.args.balances.now in
    let k = c.left_part-part.result in
    let is = c.left_part-part.ensures in
    let top = 2 * k - 1 in
    let at : top + 1 ≡ 2 * k = omega (arith, is.below, is.greatest) in
    let prefix = c.split_at.ensures.front in
    let kept : HaveHashes (take top c.args.nodes.now) (nodes_of (leaf_hashes money_text n c.split_at.result.0.now)) =
    subst (λ (xs : List ℤ). HaveHashes (take top c.args.nodes.now) (nodes_of (leaf_hashes money_text n xs)))
    (sym prefix)
    (subst (λ (hs : List (List ℕ)). HaveHashes (take top c.args.nodes.now) (nodes_of hs))
    (leaves-take ℤ money_text k n bs)
    (part-left (leaf_hashes money_text n bs) k top
    (leaves-power ℤ money_text k n bs is) at c.args.nodes.now c.requires.kept)) in
    let long : length (take top c.args.nodes.now) ≡ top = omega (arith, length-take top c.args.nodes.now, is.below) in
    (search rules, (omega arith, (omega arith, (omega (arith, long, at), kept))))

pub refresh-right_root-requires : goal.refresh-right_root-requires
refresh-right_root-requires t c =
    let n = c.args.number in
    let bs = c.args.balances.now in
    let k = c.left_part-part.result in
    let is = c.left_part-part.ensures in
    let top = 2 * k - 1 in
    let at : top + 1 ≡ 2 * k = omega (arith, is.below, is.greatest) in
    let back = c.split_at.ensures.back in
    let left = c.refresh-left_root.new.nodes in
    let kept : HaveHashes (drop (top + 1) c.args.nodes.now)
    (nodes_of (leaf_hashes money_text (n + k) c.split_at.result.1.now)) =
    subst (λ (xs : List ℤ). HaveHashes (drop (top + 1) c.args.nodes.now) (nodes_of (leaf_hashes money_text (n + k) xs)))
    (sym back)
    (subst (λ (hs : List (List ℕ)). HaveHashes (drop (top + 1) c.args.nodes.now) (nodes_of hs))
    (leaves-drop ℤ money_text k n (n + k) bs refl)
    (part-right (leaf_hashes money_text n bs) k top
    (leaves-power ℤ money_text k n bs is) at c.args.nodes.now c.requires.kept)) in
    let before : length (take top c.args.nodes.now) ≡ top = omega (arith, length-take top c.args.nodes.now, is.below) in
    let rest = rest-joined top c.args.nodes.now left (c.refresh-left_root.auto.nodes ∙ before) in
    let long = ap length rest ∙ length-drop (top + 1) c.args.nodes.now in
    let lent : HaveHashes (take (length (left ++ drop top c.args.nodes.now) - (top + 1))
    (drop (top + 1) (left ++ drop top c.args.nodes.now)))
    (nodes_of (leaf_hashes money_text (n + k) c.split_at.result.1.now)) =
    subst (λ (ps : List (Option (List ℕ))). HaveHashes ps
    (nodes_of (leaf_hashes money_text (n + k) c.split_at.result.1.now))) (sym rest) kept in
    (search rules, (omega arith, (omega arith, (omega (arith, long, at), lent))))

pub returns-clause-root : goal.returns-clause-root
returns-clause-root t c =
    c.hash_node-hash.ensures
    ∙ rw (
      c.refresh-left_root.ensures.root,
      c.refresh-right_root.ensures.root,
      c.split_at.ensures.front,
      c.split_at.ensures.back,
    )
    (sym (leaves-root ℤ money_text c.left_part-part.result c.args.number c.args.balances.now c.left_part-part.ensures))

pub returns-clause-kept : goal.returns-clause-kept
returns-clause-kept t c =
    let n = c.args.number in
    let bs = c.args.balances.now in
    let k = c.left_part-part.result in
    let is = c.left_part-part.ensures in
    let top = 2 * k - 1 in
    let at : top + 1 ≡ 2 * k = omega (arith, is.below, is.greatest) in
    let hs = leaf_hashes money_text n bs in
    let left = c.refresh-left_root.new.nodes in
    let right = c.refresh-right_root.new.nodes in
    let before : length (take top c.args.nodes.now) ≡ top = omega (arith, length-take top c.args.nodes.now, is.below) in
    let low : HaveHashes left (nodes_of (take k hs)) =
    subst (λ (t : List (List ℕ)). HaveHashes left (nodes_of t))
    (ap (λ (xs : List ℤ). leaf_hashes money_text n xs) c.split_at.ensures.front
    ∙ sym (leaves-take ℤ money_text k n bs)) c.refresh-left_root.ensures.kept in
    let high : HaveHashes right (nodes_of (drop k hs)) =
    subst (λ (t : List (List ℕ)). HaveHashes right (nodes_of t))
    (ap (λ (xs : List ℤ). leaf_hashes money_text (n + k) xs) c.split_at.ensures.back
    ∙ sym (leaves-drop ℤ money_text k n (n + k) bs refl)) c.refresh-right_root.ensures.kept in
    subst (λ (ps : List (Option (List ℕ))). HaveHashes ps (nodes_of hs))
    (sym (rebuilt top c.args.nodes.now left right (Some c.hash_node-hash.result) (omega (arith, is.below))
    (c.refresh-left_root.auto.nodes ∙ before)))
    (joined hs k top (leaves-power ℤ money_text k n bs is) at left (Some c.hash_node-hash.result) right low
    (returns-clause-root t c) high)
