use Rattle.eve_history.proofs.OrderLaws.{Naming}
use Rattle.eve_history.proofs.order.names_in_order.Given as goal

abbrev pub invariant-loop-i : goal.invariant-loop-i
invariant-loop-i l = Naming l.trace l.i l.names
