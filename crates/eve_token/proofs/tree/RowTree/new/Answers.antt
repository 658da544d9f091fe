use Rattle.std.proofs.Common.{◌≡◌, ◌-◌, ◌*◌, ◌<◌, List, ℕ, length, replicate, sym, subst, ap, arith, rules, Option}
use Rattle.std.proofs.Common.{None}
use Rattle.eve_token.specs.Places.{IsRowTree}
use Rattle.eve_token.proofs.KeptPlaces.{all-stale}
use Rattle.eve_token.proofs.tree.RowTree.new.Goals as goal

pub invariant_of-result : goal.invariant_of-result
invariant_of-result c =
    let bs = c.in_ok-copy.field-0 in
    let n = 2 * c.len-rows.result - 1 in
    let places : c.in_ok-vec.field-0.items ≡ replicate n None = search rules in
    let rows : length bs ≡ length c.args.balances.now = ap length c.in_ok-copy.ensures in
    let count = c.len-rows.ensures.len in
    let some : 0 < length bs = omega (arith, rows) in
    subst (λ (ps : List (Option (List ℕ))). IsRowTree bs ps) (sym places)
    (all-stale bs n some (omega (arith, rows, count)))
