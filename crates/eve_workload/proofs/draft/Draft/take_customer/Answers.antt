use Rattle.std.proofs.Common.{◌≡◌, length, sym, ◌∙◌, arith, rules}
use Rattle.eve_workload.specs.inner.Decoded.{borrowed_customer}
use Rattle.eve_workload.proofs.DraftLines.{customer_accepted, customer_refused, name_refused, is_known, is_fresh}
use Rattle.eve_workload.proofs.draft.Draft.take_customer.Goals as goal

pub returns-then-len-most_customers-clause-accepted : goal.returns-then-len-most_customers-clause-accepted
returns-then-len-most_customers-clause-accepted c = λ before keeps.
    let count : c.len.result ≡ length c.args.self.now.customers.items = search rules in
    customer_refused c.args.self.now (borrowed_customer c.args.customer.now) before (omega arith) keeps

pub returns-then-not-branch-clause-accepted : goal.returns-then-not-branch-clause-accepted
returns-then-not-branch-clause-accepted c = λ before keeps.
    name_refused c.args.self.now (borrowed_customer c.args.customer.now) before
    (is_known _ _ c.in_ok-add_name.ensures.new c.if-not-branch.true) keeps

pub returns-clause-accepted : goal.returns-clause-accepted
returns-clause-accepted c = λ before keeps.
    let count : c.len.result ≡ length c.args.self.now.customers.items = search rules in
    let name : c.of.result ≡ c.args.customer.now.name.now = search rules in
    customer_accepted c.args.self.now c.push.new.self c.add_name.new.names _ (borrowed_customer c.args.customer.now)
    before
    c.in_ok-push.ensures.items
    (λ k. record { name = name k; saving = c.args.customer.now.saving; checking = c.args.customer.now.checking })
    (omega arith) c.requires (sym (c.takes_customer.ensures before (borrowed_customer c.args.customer.now) keeps.last)
    ∙ c.if-not-takes_customer.false)
    (is_fresh _ _ c.in_ok-add_name.ensures.new c.if-not-branch.false) c.in_ok-add_name.ensures.kept keeps
