use Rattle.std.proofs.Common.{◌≡◌, ◌-◌, length, take}
use Rattle.eve_smallbank.specs.Access.{balance_of_row}
use Rattle.eve_chains.specs.Changes.{changes_in_ranges, values_changed}
use Rattle.eve_chains.proofs.settled.set_all.Given as goal

abbrev pub invariant-loop-range : goal.invariant-loop-range
invariant-loop-range g l = record {
  as_many : length (g.T.SetRow.rows l.rows) ≡ length (g.T.SetRow.rows l.fn.rows);
  values : balance_of_row (g.T.SetRow.rows l.rows) ≡ values_changed (balance_of_row (g.T.SetRow.rows l.fn.rows))
      (changes_in_ranges (l.n - 1) (take l.range-index l.ranges));
}
