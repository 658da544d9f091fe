use Rattle.std.proofs.Common.{List, ℤ, ◌∙◌, sym, ap, refl, [], take, slice_get}
use Rattle.std.proofs.lemmas.List.{length-map}
use Rattle.eve_smallbank.specs.declared.rows.Touched.TheVariants.{Rows}
use Rattle.eve_smallbank.specs.SmallBank.{plain}
use Rattle.eve_smallbank.specs.Access.{bank_of, balance_of_row}
use Rattle.eve_smallbank.proofs.RequestBalances.{rows_within, zeros, applied, applied_refused, others_kept}
use Rattle.eve_smallbank.proofs.apply_request.apply.Goals as goal

pub values_in-seen-requires : goal.values_in-seen-requires
values_in-seen-requires c =
    rows_within c.args.names.now.items (plain c.args.request.now) c.touched-reached.result c.in-Rows.rows
    c.args.balances.now c.touched-reached.ensures c.in-Rows.is c.requires.rows

pub write_back-requires-clause-within : goal.write_back-requires-clause-within
write_back-requires-clause-within c =
    rows_within c.args.names.now.items (plain c.args.request.now) c.touched-reached.result c.in-Rows.rows
    c.args.balances.now c.touched-reached.ensures c.in-Rows.is c.requires.rows

pub returns-in-Refused-clause-does : goal.returns-in-Refused-clause-does
returns-in-Refused-clause-does c =
    applied_refused c.args.names.now.items (plain c.args.request.now) c.touched-reached.result c.in-Refused.field-0
    c.args.balances.now c.decide.result c.in-Refused.is
    (c.decide.ensures.fits c.args.names.now.items [] c.touched-reached.ensures refl)

pub returns-in-Rows-clause-does : goal.returns-in-Rows-clause-does
returns-in-Rows-clause-does c =
    let values : List ℤ = take c.len.result c.values_in-seen.result in
    applied c.args.names.now.items (plain c.args.request.now) (Rows c.in-Rows.rows) c.in-Rows.rows c.args.balances.now
    values c.decide-decision.result
    (sym c.in-Rows.is ∙ c.touched-reached.ensures) refl c.requires.rows
    (ap (λ n. take n c.values_in-seen.result) c.len.ensures.len ∙ c.values_in-seen.ensures)
    c.decide-decision.ensures.each
    (c.decide-decision.ensures.fits c.args.names.now.items (zeros values) (sym c.in-Rows.is ∙ c.touched-reached.ensures)
    (length-map values (λ z. 0)))
    ∙ ap (λ (balances : List ℤ).
    (bank_of c.args.names.now.items (balance_of_row balances), c.decide-decision.result.reply))
    (sym c.write_back.ensures)

pub returns-in-Rows-clause-others : goal.returns-in-Rows-clause-others
returns-in-Rows-clause-others c row none =
    let values : List ℤ = take c.len.result c.values_in-seen.result in
    ap (λ (balances : List ℤ). slice_get balances row) c.write_back.ensures
    ∙ others_kept c.args.names.now.items (plain c.args.request.now) (Rows c.in-Rows.rows) c.in-Rows.rows
    c.args.balances.now values c.decide-decision.result
    refl c.decide-decision.ensures.each
    (c.decide-decision.ensures.fits c.args.names.now.items (zeros values) (sym c.in-Rows.is ∙ c.touched-reached.ensures)
    (length-map values (λ z. 0))) row none
