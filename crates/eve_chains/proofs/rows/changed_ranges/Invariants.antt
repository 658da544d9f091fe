use Rattle.std.proofs.Common.{◌≡◌, map}
use Rattle.eve_chains.specs.declared.rows.WalkedRange.{WalkedRange}
use Rattle.eve_chains.proofs.rows.changed_ranges.Given as goal

abbrev pub invariant-loop-one : goal.invariant-loop-one
invariant-loop-one l = l.ranges.items ≡ map (λ (one : WalkedRange). one.changed) l.yielded
