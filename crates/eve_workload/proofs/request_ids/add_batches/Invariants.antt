use Rattle.std.proofs.Common.{List, ◌++◌, take}
use Rattle.eve_grammar.specs.Trace.{RequestId}
use Rattle.eve_workload.specs.inner.RequestIds.{ids_in, Lists}
use Rattle.eve_workload.proofs.request_ids.add_batches.Given as goal

abbrev pub invariant-loop-batch : goal.invariant-loop-batch
invariant-loop-batch l =
    (seen : List RequestId) → Lists l.fn.table seen → Lists l.table (seen ++ ids_in (take l.batch-index l.batches))
