use Rattle.eve_stamps.proofs.OpeningLaws.{opening_rows_rise, opening_rows_within}
use Rattle.eve_stamps.proofs.opening.opening_stripe.Goals as goal

pub new-requires-clause-rise : goal.new-requires-clause-rise
new-requires-clause-rise c =
    rw (c.as_slice.ensures.value, c.in_ok-rows.ensures) (
    opening_rows_rise c.args.balances.now c.args.stripe c.args.customers)

pub new-requires-clause-limit : goal.new-requires-clause-limit
new-requires-clause-limit c =
    rw (c.as_slice.ensures.value, c.in_ok-rows.ensures) (
    opening_rows_within c.args.balances.now c.args.stripe c.args.customers)
