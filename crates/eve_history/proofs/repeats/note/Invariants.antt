use Rattle.std.proofs.Common.{◌≡◌, ◌++◌, map}
use Rattle.eve_history.specs.Order.{requests_decoded}
use Rattle.eve_history.specs.inner.Repeats.{arrival}
use Rattle.eve_history.proofs.repeats.note.Given as goal

abbrev pub invariant-loop-asked : goal.invariant-loop-asked
invariant-loop-asked l = l.arrivals.items ++ map (arrival l.batch_number) l.asked-iterator
    ≡ l.fn.arrivals.items ++ map (arrival l.batch_number) (requests_decoded l.batch.bytes.now)
