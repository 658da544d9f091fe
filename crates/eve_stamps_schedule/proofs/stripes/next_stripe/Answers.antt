use Rattle.std.proofs.Common.{◌<◌, length, slice_index_or, None, sym, ◌∙◌, rules}
use Rattle.std.proofs.lemmas.Bool.{not-true, not-false}
use Rattle.eve_stamps.specs.OpeningRows.{touches}
use Rattle.eve_stamps_schedule.specs.Events.{is_owner}
use Rattle.eve_stamps_schedule.proofs.Spans.{first_is_next, last_is_next, none_is_next}
use Rattle.eve_stamps_schedule.proofs.stripes.next_stripe.Goals as goal

pub returns-then-not-is_owner : goal.returns-then-not-is_owner
returns-then-not-is_owner c names request is =
    let some : 0 < length c.args.rows.now = search rules in
    sym (first_is_next (touches c.args.rows.now) (λ s. is_owner c.args.worker (slice_index_or c.args.owners.now s None))
    c.span_of-span.result.first c.span_of-span.result.last
    (c.span_of-span.ensures.exact names request is some) c.span_of-span.ensures.rising c.span_of-span.ensures.range
    (sym c.is_owner.ensures ∙ search (rules, not-true)))

pub returns-then-not-is_owner-2 : goal.returns-then-not-is_owner-2
returns-then-not-is_owner-2 c names request is =
    let some : 0 < length c.args.rows.now = search rules in
    sym (last_is_next (touches c.args.rows.now) (λ s. is_owner c.args.worker (slice_index_or c.args.owners.now s None))
    c.span_of-span.result.first c.span_of-span.result.last
    (c.span_of-span.ensures.exact names request is some) c.span_of-span.ensures.rising c.span_of-span.ensures.range
    (sym c.is_owner.ensures ∙ search (rules, not-false)) (sym c.is_owner-2.ensures ∙ search (rules, not-true)))

pub returns : goal.returns
returns c names request is =
    let some : 0 < length c.args.rows.now = search rules in
    sym (none_is_next (touches c.args.rows.now) (λ s. is_owner c.args.worker (slice_index_or c.args.owners.now s None))
    c.span_of-span.result.first c.span_of-span.result.last
    (c.span_of-span.ensures.exact names request is some) (sym c.is_owner.ensures ∙ search (rules, not-false))
    (sym c.is_owner-2.ensures ∙ search (rules, not-false)))
