use Rattle.std.proofs.Common.{◌≢◌, ℕ, ◌<◌, length, sym, ◌∙◌, arith, rules}
use Rattle.std.proofs.lemmas.List.{length-take-le}
use Rattle.std.proofs.lemmas.Option.{slice_get_within}
use Rattle.eve_grammar.specs.Trace.{Customer}
use Rattle.eve_grammar.specs.Spelling.{customers_at}
use Rattle.eve_frames.specs.Decoded.{customer_decoded}
use Rattle.eve_evidence.proofs.Lists.{all_more, place_in_prefix}
use Rattle.eve_evidence_form.proofs.names.first_named.Goals as goal

pub returns-then-is_same_name-clause-first : goal.returns-then-is_same_name-clause-first
returns-then-is_same_name-clause-first c =
    let cs = customers_at c.args.trace.now in
    let own : ℕ × Customer = (c.customer-customer.result.offset, customer_decoded c.customer-customer.result) in
    let within : c.loop-i.i < length cs = slice_get_within cs c.loop-i.i own c.customer-customer.ensures.says in
    place_in_prefix _ cs c.args.count c.loop-i.i own c.loop-i-test.true c.customer-customer.ensures.says (
      sym c.name.ensures ∙ c.is_same_name.ensures.yes (search rules),
      sym (length-take-le c.loop-i.i cs (omega arith)),
      c.offset.ensures,
      c.loop-i.invariant,
    )

pub loop-i-preserved : goal.loop-i-preserved
loop-i-preserved c =
    let own : ℕ × Customer = (c.customer-customer.result.offset, customer_decoded c.customer-customer.result) in
    all_more (λ (d : ℕ × Customer). d.1.name ≢ c.args.name.now) (customers_at c.args.trace.now) c.loop-i.i own
    c.customer-customer.ensures.says c.loop-i.invariant
    (λ same. c.is_same_name.ensures.no (search rules) (c.name.ensures ∙ same))
