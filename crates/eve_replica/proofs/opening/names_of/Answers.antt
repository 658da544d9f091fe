use Rattle.std.proofs.Common.{map, sym, ◌∙◌, ap, arith}
use Rattle.std.proofs.lemmas.List.{take_all}
use Rattle.std.proofs.lemmas.Simd.{map-map}
use Rattle.eve_grammar.specs.Trace.{Customer}
use Rattle.eve_write.specs.Data.{customer}
use Rattle.eve_replica.proofs.opening.names_of.Goals as goal

pub returns : goal.returns
returns c =
    c.loop-customer.invariant
    ∙ ap (map (λ x. (customer x).name)) (take_all c.loop-customer.customer-index c.args.customers.now (omega arith))
    ∙ sym (map-map (λ (x : Customer). x.name) customer c.args.customers.now)
