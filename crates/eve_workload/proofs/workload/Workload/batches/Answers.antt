use Rattle.std.proofs.Common.{◌≡◌, length, arith, rules, ◌∙◌, refl}
use Rattle.eve_workload.proofs.HeldWorkloads.{batch_count, batches_few}
use Rattle.eve_workload.proofs.workload.Workload.batches.Goals as goal

pub overflow_cast-result : goal.overflow_cast-result
overflow_cast-result c =
    let held : c.len.result ≡ length c.self.inside.batches.items = search rules in
    let count = batch_count c.self.inside c.args.self.now c.self.invariant c.self.view_is c.self.inside.batches.items
    refl in
    let few = batches_few c.self.inside c.args.self.now c.self.invariant c.self.view_is in
    omega arith

pub returns-clause-batches : goal.returns-clause-batches
returns-clause-batches c =
    let held : c.len.result ≡ length c.self.inside.batches.items = search rules in
    held ∙ batch_count c.self.inside c.args.self.now c.self.invariant c.self.view_is c.self.inside.batches.items refl

pub returns-clause-few : goal.returns-clause-few
returns-clause-few c =
    let held : c.len.result ≡ length c.self.inside.batches.items = search rules in
    let count = batch_count c.self.inside c.args.self.now c.self.invariant c.self.view_is c.self.inside.batches.items
    refl in
    let few = batches_few c.self.inside c.args.self.now c.self.invariant c.self.view_is in
    omega arith
