use Rattle.std.proofs.Common.{◌-◌, ℕ, length, map, subst, sym, ◌∙◌}
use Rattle.std.specs.Prelude.{All}
use Rattle.eve_smallbank.specs.Access.{balance_of_row}
use Rattle.eve_chains.specs.Changes.{change_of}
use Rattle.eve_chains.specs.Numbered.{IsRowBelow, HasNumbersTo}
use Rattle.eve_chains.proofs.NumberGroups.{of_next}
use Rattle.eve_chains.proofs.SetRows.{range_set}
use Rattle.eve_chains.proofs.settled.set_all.Goals as goal

pub changed_by-requires-clause-there : goal.changed_by-requires-clause-there
changed_by-requires-clause-there g c =
    let rows = length (g.T.SetRow.rows c.args.rows.now) in
    (of_next (HasNumbersTo rows c.args.n) c.args.ranges.now c.loop-range.range-index c.range-item.result
    c.requires.rows c.loop-range-test.true c.range-item.is).there

pub changed_by-requires-clause-order : goal.changed_by-requires-clause-order
changed_by-requires-clause-order g c =
    let rows = length (g.T.SetRow.rows c.args.rows.now) in (
      rows,
      (of_next (HasNumbersTo rows c.args.n) c.args.ranges.now c.loop-range.range-index c.range-item.result
          c.requires.rows
          c.loop-range-test.true c.range-item.is).order,
    )

pub set_each-requires : goal.set_each-requires
set_each-requires g c =
    let rows = length (g.T.SetRow.rows c.args.rows.now) in
    record {
      rows = subst (λ (k : ℕ). All (IsRowBelow k) c.changed_by.result.now) (sym c.loop-range.invariant.as_many)
          (c.changed_by.ensures.rows rows
          (of_next (HasNumbersTo rows c.args.n) c.args.ranges.now c.loop-range.range-index c.range-item.result
          c.requires.rows
          c.loop-range-test.true c.range-item.is).order);
    }

pub loop-range-preserved : goal.loop-range-preserved
loop-range-preserved g c = record {
  as_many = c.set_each.ensures.as_many ∙ c.loop-range.invariant.as_many;
  values = range_set (c.args.n - 1) c.args.ranges.now c.loop-range.range-index c.range-item.result
      c.loop-range-test.true c.range-item.is (balance_of_row (g.T.SetRow.rows c.args.rows.now))
      (balance_of_row (g.T.SetRow.rows c.loop-range.rows)) (balance_of_row (g.T.SetRow.rows c.set_each.new.rows))
      (map change_of c.changed_by.result.now) c.loop-range.invariant.values c.changed_by.ensures.says
      c.set_each.ensures.values;
}
