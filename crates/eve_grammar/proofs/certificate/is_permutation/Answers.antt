use Rattle.std.proofs.Common.{◌≡◌, ◌≤◌, ◌<◌, true, false, get_or, length, sym, arith, rules}
use Rattle.eve_grammar.proofs.Orders.{marked_start, marked_more, marked_twice, marked_all, too_large}
use Rattle.eve_grammar.proofs.certificate.is_permutation.Goals as goal
use Rattle.eve_grammar.proofs.certificate.is_permutation.Goals.{then-index-order-via-then-index-order}
use Rattle.eve_grammar.proofs.certificate.is_permutation.Goals.{then-index-order-via-else-index-order+then-seen-index}

pub loop-index-init : goal.loop-index-init
loop-index-init c = marked_start (length c.args.order.now)

pub returns-then-index-order : goal.returns-then-index-order
returns-then-index-order c =
    let xs = c.args.order.now in
    let k = c.loop-index.index-index in
    let within : k < length xs = omega arith in
    elim c.then-index-order.branch [
      | then-index-order-via-then-index-order w ↦
          let large : length xs ≤ get_or xs k 0 = search rules in
          sym (too_large (length xs) xs k within large)
      | then-index-order-via-else-index-order+then-seen-index w ↦
          let below : get_or xs k 0 < length xs = search rules in
          let old : get_or c.loop-index.seen (get_or xs k 0) false ≡ true = search rules in
          sym (marked_twice xs k c.loop-index.seen c.loop-index.invariant c.requires within below old)
    ]

pub loop-index-preserved : goal.loop-index-preserved
loop-index-preserved c =
    let xs = c.args.order.now in
    let k = c.loop-index.index-index in
    let within : k < length xs = omega arith in
    let below : get_or xs k 0 < length xs = search rules in
    let new : get_or c.loop-index.seen (get_or xs k 0) false ≡ false = search rules in
    marked_more xs k c.loop-index.seen c.loop-index.invariant c.requires within below new

pub returns : goal.returns
returns c = sym (marked_all c.args.order.now c.loop-index.index-index c.loop-index.seen c.loop-index.invariant
    c.requires (omega arith))
