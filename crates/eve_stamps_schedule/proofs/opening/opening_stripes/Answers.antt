use Rattle.std.proofs.Common.{◌∷◌, ◌++◌, List, [], None, sym, ap₂, ◌∙◌, arith}
use Rattle.std.proofs.lemmas.List.FromFn.{map-range_with_len_more}
use Rattle.eve_stamps.specs.Stripes.{Stripe}
use Rattle.eve_stamps.specs.OpeningRows.{rows_of_stripe}
use Rattle.eve_stamps_schedule.proofs.opening.opening_stripes.Goals as goal

pub loop-stripe-preserved : goal.loop-stripe-preserved
loop-stripe-preserved c =
    c.in_ok-push.ensures.items
    ∙ ap₂ (λ (stripes : List Stripe) (stripe : Stripe). stripes ++ stripe ∷ []) c.loop-stripe.invariant
    c.in_ok-opening_stripe.ensures
    ∙ sym (map-range_with_len_more
    (λ i. record { base = rows_of_stripe c.args.balances.now i c.args.customers; journal = []; greatest = None }) 0
    c.loop-stripe.stripe c.loop-stripe.stripe (omega arith))
