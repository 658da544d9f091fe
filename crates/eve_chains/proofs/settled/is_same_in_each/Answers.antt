use Rattle.std.proofs.Common.{◌≡◌, true, false, sym, ◌∙◌, rules}
use Rattle.std.specs.Ordering.{int_eq}
use Rattle.eve_chains.specs.Changes.{change_of}
use Rattle.eve_chains.specs.Numbered.{is_same_where_changed}
use Rattle.eve_chains.proofs.SetRows.{same_more, not_same, lent_is}
use Rattle.eve_chains.proofs.settled.is_same_in_each.Goals as goal

pub returns-then-ne : goal.returns-then-ne
returns-then-ne c =
    let change = c.change-item.result in
    let b = c.args.balances.now in
    let d = c.args.others.now in
    let own = lent_is b change.row c.get.result c.get.ensures in
    let its = lent_is d change.row c.get-in-loop-change.result c.get-in-loop-change.ensures in
    let is : int_eq c.get.result c.get-in-loop-change.result ≡ false = search rules in
    let other : is_same_where_changed b d (change_of change) ≡ false = (λ k. int_eq (own k) (its k)) ∙ is in
    sym (not_same c.args.changes.now c.loop-change.change-index change c.loop-change-test.true c.change-item.is b d
    other)

pub loop-change-preserved : goal.loop-change-preserved
loop-change-preserved c =
    let change = c.change-item.result in
    let b = c.args.balances.now in
    let d = c.args.others.now in
    let own = lent_is b change.row c.get.result c.get.ensures in
    let its = lent_is d change.row c.get-in-loop-change.result c.get-in-loop-change.ensures in
    let is : int_eq c.get.result c.get-in-loop-change.result ≡ true = search rules in
    let same : is_same_where_changed b d (change_of change) ≡ true = (λ k. int_eq (own k) (its k)) ∙ is in
    same_more c.args.changes.now c.loop-change.change-index change c.loop-change-test.true c.change-item.is b d
    c.loop-change.invariant same
