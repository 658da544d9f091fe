use Rattle.std.proofs.Common.{◌≡◌, map, [], None}
use Rattle.std.specs.List.{range_with_len}
use Rattle.eve_stamps.specs.OpeningRows.{rows_of_stripe}
use Rattle.eve_stamps_schedule.proofs.opening.opening_stripes.Given as goal

abbrev pub invariant-loop-stripe : goal.invariant-loop-stripe
invariant-loop-stripe l =
    l.stripes.items ≡ map
    (λ i. record { base = rows_of_stripe l.balances i l.customers; journal = []; greatest = None })
    (range_with_len 0 l.stripe)
