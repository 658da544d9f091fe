use Rattle.std.proofs.Common.{◌≡◌, ◌*◌, length, map, take}
use Rattle.eve_grammar.specs.Trace.{opening_rows}
use Rattle.eve_write.specs.Data.{customer}
use Rattle.eve_replica.proofs.opening.balances_of.Given as goal

abbrev pub invariant-loop-place : goal.invariant-loop-place
invariant-loop-place l = record {
  rows : length l.balances ≡ 2 * length l.customers;
  written : take (2 * l.place) l.balances ≡ opening_rows (take l.place (map customer l.customers));
}
