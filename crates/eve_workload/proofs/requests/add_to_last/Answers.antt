use Rattle.std.proofs.Common.{◌-◌, arith}
use Rattle.eve_workload.proofs.BatchLists.{pushed_last}
use Rattle.eve_workload.proofs.requests.add_to_last.Goals as goal

pub returns : goal.returns
returns c =
    pushed_last c.args.batches.now.items (c.len-place.result - 1) c.index_mut.result.now c.add_owned.new.requests _
    (omega arith) c.index_mut.ensures.value c.in_ok-add_owned.ensures
