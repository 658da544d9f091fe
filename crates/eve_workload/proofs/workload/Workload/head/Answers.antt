use Rattle.std.proofs.Common.{◌≡◌, length, IsTrue, arith, rules, refl, sym, subst, ◌∙◌}
use Rattle.eve_grammar.specs.Limits.{is_head}
use Rattle.eve_workload.proofs.HeldWorkloads.{batch_count, batches_few, customer_count, customers_few, head_is}
use Rattle.eve_workload.proofs.HeldWorkloads.{head_right}
use Rattle.eve_workload.proofs.HeldWorkloads.{is_workload}
use Rattle.eve_workload.proofs.workload.Workload.head.Goals as goal

pub overflow_cast-customers : goal.overflow_cast-customers
overflow_cast-customers c =
    let held : c.len-customers.result ≡ length c.self.inside.customers.items = search rules in
    let count = customer_count c.self.inside c.args.self.now c.self.invariant c.self.view_is
    c.self.inside.customers.items refl in
    let few = customers_few c.self.inside c.args.self.now c.self.invariant c.self.view_is in
    omega arith

pub overflow_cast-batches : goal.overflow_cast-batches
overflow_cast-batches c =
    let held : c.len-batches.result ≡ length c.self.inside.batches.items = search rules in
    let count = batch_count c.self.inside c.args.self.now c.self.invariant c.self.view_is c.self.inside.batches.items
    refl in
    let few = batches_few c.self.inside c.args.self.now c.self.invariant c.self.view_is in
    omega arith

pub returns-clause-head : goal.returns-clause-head
returns-clause-head c =
    let customers : c.len-customers.result ≡ length c.self.inside.customers.items = search rules in
    let batches : c.len-batches.result ≡ length c.self.inside.batches.items = search rules in
    c.head.ensures ∙ head_is c.self.inside c.args.self.now c.self.invariant c.self.view_is _ _ customers batches

pub returns-clause-right : goal.returns-clause-right
returns-clause-right c = λ some known.
    let customers : c.len-customers.result ≡ length c.self.inside.customers.items = search rules in
    let batches : c.len-batches.result ≡ length c.self.inside.batches.items = search rules in
    subst (λ h. IsTrue (is_head h)) (sym c.head.ensures)
    (head_right c.self.inside c.args.self.now c.self.invariant c.self.view_is _ _ customers batches some known)

pub returns-clause-workload : goal.returns-clause-workload
returns-clause-workload c = is_workload c.self.inside c.args.self.now c.self.invariant c.self.view_is
