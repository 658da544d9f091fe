use Rattle.std.proofs.Common.{◌≡◌}
use Rattle.eve_stamps.specs.OpeningRows.{rows_of_stripe}
use Rattle.eve_stamps.proofs.opening.opening_rows.Given as goal

abbrev pub invariant-loop-customer : goal.invariant-loop-customer
invariant-loop-customer l = l.rows.items ≡ rows_of_stripe l.balances l.stripe l.customer
