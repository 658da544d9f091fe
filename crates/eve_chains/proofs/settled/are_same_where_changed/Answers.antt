use Rattle.std.proofs.Common.{◌-◌, length, map, sym, ◌∙◌}
use Rattle.eve_chains.specs.Changes.{change_of}
use Rattle.eve_chains.specs.Numbered.{HasNumbersTo}
use Rattle.eve_chains.proofs.NumberGroups.{of_next}
use Rattle.eve_chains.proofs.SetRows.{range_same, range_other}
use Rattle.eve_chains.proofs.settled.are_same_where_changed.Goals as goal

pub changed_by-requires-clause-there : goal.changed_by-requires-clause-there
changed_by-requires-clause-there c =
    (of_next (HasNumbersTo (length c.args.balances.now) c.args.n) c.args.ranges.now c.loop-range.range-index
    c.range-item.result
    c.requires.rows c.loop-range-test.true c.range-item.is).there

pub changed_by-requires-clause-order : goal.changed_by-requires-clause-order
changed_by-requires-clause-order c = (
  length c.args.balances.now,
  (of_next (HasNumbersTo (length c.args.balances.now) c.args.n) c.args.ranges.now c.loop-range.range-index
      c.range-item.result
      c.requires.rows c.loop-range-test.true c.range-item.is).order,
)

pub is_same_in_each-requires-clause-rows : goal.is_same_in_each-requires-clause-rows
is_same_in_each-requires-clause-rows c =
    c.changed_by.ensures.rows (length c.args.balances.now)
    (of_next (HasNumbersTo (length c.args.balances.now) c.args.n) c.args.ranges.now c.loop-range.range-index
    c.range-item.result
    c.requires.rows c.loop-range-test.true c.range-item.is).order

pub returns-then-not-is_same_in_each : goal.returns-then-not-is_same_in_each
returns-then-not-is_same_in_each c =
    sym (range_other (c.args.n - 1) c.args.ranges.now c.loop-range.range-index c.range-item.result
    c.loop-range-test.true c.range-item.is c.args.balances.now c.args.others.now (map change_of c.changed_by.result.now)
    c.changed_by.ensures.says (sym c.is_same_in_each.ensures ∙ c.if-not-is_same_in_each.true))

pub loop-range-preserved : goal.loop-range-preserved
loop-range-preserved c =
    range_same (c.args.n - 1) c.args.ranges.now c.loop-range.range-index c.range-item.result c.loop-range-test.true
    c.range-item.is c.args.balances.now c.args.others.now (map change_of c.changed_by.result.now)
    c.changed_by.ensures.says c.loop-range.invariant (sym c.is_same_in_each.ensures ∙ c.if-not-is_same_in_each.false)
