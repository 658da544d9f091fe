use Rattle.std.proofs.Common.{◌≤◌, ◌+◌, length}
use Rattle.eve_chains.specs.inner.Stretches.{AreBetween}
use Rattle.eve_chains.proofs.stretch.Stretch.cut.Given as goal

abbrev pub invariant-loop : goal.invariant-loop
invariant-loop l = record {
  there : l.from ≤ l.to;
  few : length l.stretches.items + 1 ≤ l.counter;
  stretches : AreBetween l.start l.from l.stretches.items;
}
