use Rattle.eve_history.specs.inner.GreatestNumbers.{greatest_of}
use Rattle.eve_history.proofs.GreatestNumbers.{RisenTo}
use Rattle.eve_history.proofs.order.numbers_rise.Given as goal

abbrev pub invariant-loop-n : goal.invariant-loop-n
invariant-loop-n l = RisenTo l.trace l.n (greatest_of l.greatest)
