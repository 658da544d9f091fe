use Rattle.std.proofs.Common.{◌≡◌, List, [], ◌∷◌, map, sym, subst, rules}
use Rattle.eve_grammar.specs.Trace.{Asked}
use Rattle.eve_grammar.specs.Bodies.{borrowed_asked}
use Rattle.eve_grammar.specs.Trace.{request_id}
use Rattle.eve_history.specs.Order.{requests_decoded}
use Rattle.eve_history.specs.inner.GreatestNumbers.{greatest_of, AreReached}
use Rattle.eve_history.proofs.GreatestNumbers.{Rising, rising_start, rising_more, rising_end}
use Rattle.eve_history.proofs.order.are_above.Goals as goal

pub loop-asked-init : goal.loop-asked-init
loop-asked-init c = λ noted reached.
    let own = requests_decoded c.args.batch.now.bytes.now in
    let kept = AreReached (greatest_of c.args.greatest.now) in
    let items : c.into_iter-asked-iterator.result ≡ own = search rules in
    subst (λ (xs : List Asked). Rising noted (map request_id own) (map request_id xs) kept) (sym items)
    (rising_start noted (map request_id own) kept reached)

pub loop-asked-preserved : goal.loop-asked-preserved
loop-asked-preserved c = λ noted reached.
    let own = map request_id (requests_decoded c.args.batch.now.bytes.now) in
    let kept = AreReached (greatest_of c.loop-asked.greatest) in
    let first : c.loop-asked.asked-iterator ≡ borrowed_asked c.in-Some.asked ∷ c.next.new.self = search rules in
    rising_more noted own (map request_id c.next.new.self) (request_id (borrowed_asked c.in-Some.asked)) kept
    (AreReached (greatest_of c.is_above.new.greatest))
    (subst (λ (xs : List Asked). Rising noted own (map request_id xs) kept) first
    (c.loop-asked.invariant noted reached))
    (c.in_ok-is_above.ensures.above c.if-not-branch.false)

pub returns-clause-above : goal.returns-clause-above
returns-clause-above c = λ _ noted reached.
    let own = map request_id (requests_decoded c.args.batch.now.bytes.now) in
    let kept = AreReached (greatest_of c.loop-asked.greatest) in
    let none : c.loop-asked.asked-iterator ≡ [] = search rules in
    rising_end noted own kept
    (subst (λ (xs : List Asked). Rising noted own (map request_id xs) kept) none
    (c.loop-asked.invariant noted reached))
