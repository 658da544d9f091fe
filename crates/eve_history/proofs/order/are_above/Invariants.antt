use Rattle.std.proofs.Common.{List, map}
use Rattle.eve_grammar.specs.Trace.{RequestId, request_id}
use Rattle.eve_history.specs.Order.{requests_decoded}
use Rattle.eve_history.specs.inner.GreatestNumbers.{greatest_of, AreReached}
use Rattle.eve_history.proofs.GreatestNumbers.{Rising}
use Rattle.eve_history.proofs.order.are_above.Given as goal

abbrev pub invariant-loop-asked : goal.invariant-loop-asked
invariant-loop-asked l =
    (noted : List RequestId) → AreReached (greatest_of l.fn.greatest) noted
    → Rising noted (map request_id (requests_decoded l.batch.bytes.now)) (map request_id l.asked-iterator)
    (AreReached (greatest_of l.greatest))
