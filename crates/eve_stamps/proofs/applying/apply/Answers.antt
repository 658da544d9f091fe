use Rattle.std.proofs.Common.{ap, sym, ◌∙◌}
use Rattle.eve_smallbank.specs.Touch.{rows_in}
use Rattle.eve_stamps.specs.Stripes.{Stripe, has_row, rows_now, is_above}
use Rattle.eve_stamps.proofs.Refusals.{many_seen}
use Rattle.eve_stamps.proofs.applying.apply.Goals as goal

pub run-requires-clause-seen : goal.run-requires-clause-seen
run-requires-clause-seen c =
    many_seen (has_row c.args.stripe.now) (rows_now c.args.stripe.now) (rows_in c.args.touched.now) c.rows-rows.result
    c.seen_in-seen.result c.rows-rows.ensures c.seen_in-seen.ensures

pub note-requires-clause-above : goal.note-requires-clause-above
note-requires-clause-above c =
    ap (λ (s : Stripe). is_above c.args.stamp.tick s.greatest) c.stripe.view_is
    ∙ sym c.is_above.ensures ∙ c.in_ok-reply.ensures.new
