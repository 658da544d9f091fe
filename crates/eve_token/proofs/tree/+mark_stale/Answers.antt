use Rattle.std.proofs.Common.{◌≡◌, ◌+◌, ◌*◌, ◌-◌, ℕ, List, length, take, drop, Option, None, sym, subst, arith}
use Rattle.std.proofs.Common.{length-take, length-drop}
use Rattle.std.proofs.lemmas.List.{take-set}
use Rattle.eve_token.specs.Merkle.{IsGreatestPowerBelow}
use Rattle.eve_token.specs.Places.{HaveHashes, nodes_of}
use Rattle.eve_token.proofs.KeptPlaces.{leaf-stale, left-stale, right-stale, part-left, part-right, rest-after}
use Rattle.eve_token.proofs.tree.+mark_stale.Goals as goal

pub returns-then-leaves-eq1 : goal.returns-then-leaves-eq1
returns-then-leaves-eq1 t c = λ hashes hash count kept.
    let one : length hashes ≡ 1 = omega (arith, count) in
    leaf-stale c.args.nodes.now hashes c.args.leaf hash one kept

pub returns-then-leaf-part : goal.returns-then-leaf-part
returns-then-leaf-part t c = λ hashes hash count kept.
    let k = c.left_part-part.result in
    let top = 2 * k - 1 in
    let is : IsGreatestPowerBelow k (length hashes) = subst (IsGreatestPowerBelow k)
    (sym count) c.left_part-part.ensures in
    let at : top + 1 ≡ 2 * k = omega (arith, is.below, is.greatest) in
    let part : length (take k hashes) ≡ k = omega (arith, length-take k hashes, is.below) in
    left-stale hashes k top c.args.leaf hash c.args.nodes.now c.mark_stale.new.nodes is at (omega arith)
    (omega (arith, is.below, is.greatest, count))
    (c.mark_stale.ensures (take k hashes) hash part
    (subst (λ (ps : List (Option (List ℕ))). HaveHashes ps (nodes_of (take k hashes)))
    (sym (take-set c.args.nodes.now top None)) (part-left hashes k top is at c.args.nodes.now kept)))
    kept

pub returns-else-leaf-part : goal.returns-else-leaf-part
returns-else-leaf-part t c = λ hashes hash count kept.
    let k = c.left_part-part.result in
    let top = 2 * k - 1 in
    let is : IsGreatestPowerBelow k (length hashes) = subst (IsGreatestPowerBelow k)
    (sym count) c.left_part-part.ensures in
    let at : top + 1 ≡ 2 * k = omega (arith, is.below, is.greatest) in
    let part : length (drop k hashes) ≡ c.args.leaves - k = omega (arith, length-drop k hashes, count) in
    right-stale hashes k top c.args.leaf hash c.args.nodes.now c.mark_stale-else-leaf-part.new.nodes is at
    (omega arith) (omega (arith, is.below, is.greatest, count))
    (c.mark_stale-else-leaf-part.ensures (drop k hashes) hash part
    (subst (λ (ps : List (Option (List ℕ))). HaveHashes ps (nodes_of (drop k hashes)))
    (sym (rest-after top c.args.nodes.now None)) (part-right hashes k top is at c.args.nodes.now kept)))
    kept
