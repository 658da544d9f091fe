use Rattle.std.proofs.Common.{◌≡◌, ◌*◌, length, take}
use Rattle.eve_grammar.specs.Trace.{opening_rows}
use Rattle.eve_chains.proofs.opening.opening_balances.Given as goal

abbrev pub invariant-loop-i : goal.invariant-loop-i
invariant-loop-i l = record {
  rows : length l.balances ≡ 2 * length l.trace.customers;
  written : take (2 * l.i) l.balances ≡ opening_rows (take l.i l.trace.customers);
}
