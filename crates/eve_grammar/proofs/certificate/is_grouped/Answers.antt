use Rattle.std.proofs.Common.{sym, arith, rules}
use Rattle.eve_grammar.proofs.GroupOrder.{goes_on_from, goes_on_more, falls_back, goes_to_end}
use Rattle.eve_grammar.proofs.certificate.is_grouped.Goals as goal

pub loop-index-init : goal.loop-index-init
loop-index-init c = λ sizes are. goes_on_from sizes c.args.order.now

pub returns-then-group-last : goal.returns-then-group-last
returns-then-group-last c = λ sizes are.
    let xs = c.args.order.now in
    let k = c.loop-index.index-index in
    sym (falls_back sizes xs c.args.groups.now k c.loop-index.last are (omega arith) (search rules)
    (c.loop-index.invariant sizes are))

pub loop-index-preserved : goal.loop-index-preserved
loop-index-preserved c = λ sizes are.
    let xs = c.args.order.now in
    let k = c.loop-index.index-index in
    goes_on_more sizes xs c.args.groups.now k c.loop-index.last are (omega arith) (search rules)
    (c.loop-index.invariant sizes are)

pub returns : goal.returns
returns c = λ sizes are. sym
    (goes_to_end sizes c.args.order.now c.loop-index.index-index c.loop-index.last (omega arith)
    (c.loop-index.invariant sizes are))
