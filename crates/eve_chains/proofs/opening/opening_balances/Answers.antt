use Rattle.std.proofs.Common.{◌≡◌, ◌+◌, ◌*◌, length, set, ap, ◌∙◌, rules}
use Rattle.std.proofs.lemmas.List.{length-set}
use Rattle.eve_frames.specs.Views.{customer_in}
use Rattle.eve_grammar.specs.Trace.{Customer}
use Rattle.eve_chains.proofs.Openings.{customer_there}
use Rattle.eve_grammar.proofs.OpeningRows.{opening_more}
use Rattle.eve_chains.proofs.opening.opening_balances.Goals as goal

pub loop-i-preserved : goal.loop-i-preserved
loop-i-preserved c =
    let customer : Customer = customer_in c.customer-customer.result.bytes.now in
    let i = c.loop-i.i in
    let z = c.saving-in-loop-i.result in
    let w = c.checking-in-loop-i.result in
    let is : c.set-in-loop-i.new.self ≡ set (set c.loop-i.balances (2 * i) z) (2 * i + 1) w = search rules in
    record {
      rows = ap length is ∙ length-set (set c.loop-i.balances (2 * i) z) (2 * i + 1) w
          ∙ length-set c.loop-i.balances (2 * i) z ∙ c.loop-i.invariant.rows;
      written = rw is (opening_more c.args.trace.now.customers i customer c.loop-i.balances z w
          (customer_there c.args.trace.now i c.customer-customer.result.offset customer
          c.customer-customer.ensures.says) c.loop-i.invariant.rows c.loop-i.invariant.written
          c.saving-in-loop-i.ensures c.checking-in-loop-i.ensures);
    }
