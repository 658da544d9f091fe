use Rattle.std.proofs.Common.{◌≡◌, length, map, take}
use Rattle.eve_smallbank.specs.Access.{balance_of_row}
use Rattle.eve_chains.specs.Changes.{change_of, values_changed}
use Rattle.eve_chains.proofs.settled.set_each.Given as goal

abbrev pub invariant-loop-change : goal.invariant-loop-change
invariant-loop-change g l = record {
  as_many : length (g.T.SetRow.rows l.rows) ≡ length (g.T.SetRow.rows l.fn.rows);
  values : balance_of_row (g.T.SetRow.rows l.rows)
      ≡ values_changed (balance_of_row (g.T.SetRow.rows l.fn.rows)) (map change_of (take l.change-index l.changes));
}
