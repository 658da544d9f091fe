use Rattle.std.proofs.Common.{None}
use Rattle.eve_stamps.proofs.StripeLaws.{held_alone}
use Rattle.eve_stamps.proofs.stripe.Stripe.new.Goals as goal

pub invariant_of-result : goal.invariant_of-result
invariant_of-result c =
    rw (c.in_ok-from_slice.ensures.items, c.in_ok-from_slice-2.ensures.items, c.new.ensures.items)
    (held_alone c.args.rows.now None c.requires.rise c.requires.limit)
