use Rattle.std.proofs.Common.{◌-◌, arith}
use Rattle.eve_workload.proofs.HeldWorkloads.{batch_listed, listed_some, listed_few, listed_right}
use Rattle.eve_workload.proofs.workload.Workload.batch.Goals as goal

pub returns-clause-some : goal.returns-clause-some
returns-clause-some c =
    listed_some c.as_slice.result.now
    (batch_listed c.self.inside c.args.self.now _ c.self.invariant c.self.view_is c.as_slice-batches.ensures.value
    (c.args.n - 1) _ c.index-batches-n.is (omega arith) _ c.as_slice.ensures.value)

pub returns-clause-few : goal.returns-clause-few
returns-clause-few c =
    listed_few c.as_slice.result.now
    (batch_listed c.self.inside c.args.self.now _ c.self.invariant c.self.view_is c.as_slice-batches.ensures.value
    (c.args.n - 1) _ c.index-batches-n.is (omega arith) _ c.as_slice.ensures.value)

pub returns-clause-right : goal.returns-clause-right
returns-clause-right c =
    listed_right c.as_slice.result.now
    (batch_listed c.self.inside c.args.self.now _ c.self.invariant c.self.view_is c.as_slice-batches.ensures.value
    (c.args.n - 1) _ c.index-batches-n.is (omega arith) _ c.as_slice.ensures.value)
