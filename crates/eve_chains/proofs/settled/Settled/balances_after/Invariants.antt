use Rattle.std.proofs.Common.{◌≡◌, length}
use Rattle.eve_smallbank.specs.Access.{balance_of_row}
use Rattle.eve_chains.specs.CommittedValues.{values_in}
use Rattle.eve_chains.proofs.settled.Settled.balances_after.Given as goal

abbrev pub invariant-loop-before : goal.invariant-loop-before
invariant-loop-before l = record {
  rows : length l.balances ≡ length l.self.opening;
  values : balance_of_row l.balances ≡ values_in l.self l.before;
}
