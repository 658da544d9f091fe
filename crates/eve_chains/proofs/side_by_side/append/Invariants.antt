use Rattle.std.proofs.Common.{◌≡◌, ◌++◌}
use Rattle.eve_chains.proofs.side_by_side.append.Given as goal

abbrev pub invariant-loop-part : goal.invariant-loop-part
invariant-loop-part l = l.all.items ≡ l.fn.all.items ++ l.yielded
