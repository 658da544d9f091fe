use Rattle.std.proofs.Common.{◌≡◌, take}
use Rattle.eve_history.specs.SectionHistory.{names_of}
use Rattle.eve_explain.proofs.names.names_in_order.Given as goal

abbrev pub invariant-loop-i : goal.invariant-loop-i
invariant-loop-i l = l.names.items ≡ take l.i (names_of l.trace)
