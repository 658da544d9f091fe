use Rattle.std.proofs.Common.{◌≡◌, slice_index_or, None}
use Rattle.eve_stamps.specs.declared.limits.TheConstants.{STRIPES}
use Rattle.eve_stamps_schedule.specs.Stripes.{greatest_below}
use Rattle.eve_stamps_schedule.specs.Events.{is_owner}
use Rattle.eve_stamps_schedule.proofs.stripes.last_stripe.Given as goal

abbrev pub invariant-loop-stripe : goal.invariant-loop-stripe
invariant-loop-stripe l =
    greatest_below STRIPES (λ s. is_owner l.worker (slice_index_or l.owners s None))
    ≡ greatest_below l.stripe (λ s. is_owner l.worker (slice_index_or l.owners s None))
