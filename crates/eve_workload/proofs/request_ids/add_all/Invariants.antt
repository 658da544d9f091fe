use Rattle.std.proofs.Common.{List, ◌++◌, take}
use Rattle.eve_grammar.specs.Trace.{RequestId}
use Rattle.eve_workload.specs.inner.RequestIds.{ids_of, Lists}
use Rattle.eve_workload.proofs.request_ids.add_all.Given as goal

abbrev pub invariant-loop-request : goal.invariant-loop-request
invariant-loop-request l =
    (seen : List RequestId) → Lists l.fn.table seen → Lists l.table (seen ++ ids_of (take l.request-index l.requests))
