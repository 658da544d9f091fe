use Rattle.std.proofs.Common.{arith}
use Rattle.eve_workload.proofs.HeldWorkloads.{customer_count, customers_some, customers_few, customers_right}
use Rattle.eve_workload.proofs.HeldWorkloads.{customers_differ}
use Rattle.eve_workload.proofs.workload.Workload.customers.Goals as goal

pub returns-clause-some : goal.returns-clause-some
returns-clause-some c =
    let count = customer_count c.self.inside c.args.self.now c.self.invariant c.self.view_is c.as_slice.result.now
    c.as_slice.ensures.value in
    let some = customers_some c.self.inside c.args.self.now c.self.invariant c.self.view_is in
    omega arith

pub returns-clause-few : goal.returns-clause-few
returns-clause-few c =
    let count = customer_count c.self.inside c.args.self.now c.self.invariant c.self.view_is c.as_slice.result.now
    c.as_slice.ensures.value in
    let few = customers_few c.self.inside c.args.self.now c.self.invariant c.self.view_is in
    omega arith

pub returns-clause-right : goal.returns-clause-right
returns-clause-right c = customers_right c.self.inside c.args.self.now c.self.invariant c.self.view_is
    c.as_slice.result.now c.as_slice.ensures.value

pub returns-clause-differ : goal.returns-clause-differ
returns-clause-differ c = customers_differ c.self.inside c.args.self.now c.self.invariant c.self.view_is
    c.as_slice.result.now c.as_slice.ensures.value
