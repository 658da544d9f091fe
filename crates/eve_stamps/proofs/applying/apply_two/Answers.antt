use Rattle.std.proofs.Common.{List, Ok, ap, ap₂, sym, subst, ◌∙◌}
use Rattle.std.proofs.lemmas.Bool.{and_parts}
use Rattle.std.specs.Prelude.{Bool, Option}
use Rattle.eve_smallbank.specs.SmallBank.{plain}
use Rattle.eve_smallbank.specs.Access.{Fits}
use Rattle.eve_smallbank.specs.Touch.{rows_in}
use Rattle.eve_stamps.specs.declared.journal.Journaled.{Journaled}
use Rattle.eve_stamps.specs.declared.fault.StampFault.{StampFault}
use Rattle.eve_stamps.specs.Applied.{Applied, noted_of, executed_as}
use Rattle.eve_stamps.specs.Stripes.{HeldRow, Stripe, is_above}
use Rattle.eve_stamps.specs.Requests.{has_row_in_two, rows_in_two, seen_of, refused_for, IsRefusedFor}
use Rattle.eve_stamps.specs.HeldRows.{stripe_held}
use Rattle.eve_stamps.proofs.Refusals.{many_seen}
use Rattle.eve_stamps.proofs.StripeLaws.{noted_within, noted_outside}
use Rattle.eve_stamps.proofs.applying.apply_two.Goals as goal

pub run-requires-clause-seen : goal.run-requires-clause-seen
run-requires-clause-seen c =
    many_seen (has_row_in_two c.args.first.now c.args.second.now) (rows_in_two c.args.first.now c.args.second.now)
    (rows_in c.args.touched.now) c.rows-rows.result c.seen_in_two-seen.result c.rows-rows.ensures
    c.seen_in_two-seen.ensures

pub note-requires-clause-above : goal.note-requires-clause-above
note-requires-clause-above c =
    ap (λ (s : Stripe). is_above c.args.stamp.tick s.greatest) c.first.view_is
    ∙ (and_parts (is_above c.args.stamp.tick c.args.first.now.greatest)
    (is_above c.args.stamp.tick c.args.second.now.greatest) (sym c.are_above.ensures ∙ c.in_ok-reply.ensures.new)).0

pub note-requires-2-clause-above : goal.note-requires-2-clause-above
note-requires-2-clause-above c =
    ap (λ (s : Stripe). is_above c.args.stamp.tick s.greatest) c.second.view_is
    ∙ (and_parts (is_above c.args.stamp.tick c.args.first.now.greatest)
    (is_above c.args.stamp.tick c.args.second.now.greatest) (sym c.are_above.ensures ∙ c.in_ok-reply.ensures.new)).1

pub note-requires-clause-noted : goal.note-requires-clause-noted
note-requires-clause-noted c =
    let is_there = has_row_in_two c.args.first.now c.args.second.now in
    let now = rows_in_two c.args.first.now c.args.second.now in
    noted_within c.args.first.now c.args.second.now
    (stripe_held c.deref.result.now c.reserve_in_both.new.first.items c.first.inside.greatest)
    c.in_ok-reply.entries c.split-within.result.0
    (ap₂ (λ (bs : List HeldRow) (js : List Journaled). stripe_held bs js c.first.inside.greatest)
    c.deref.ensures.value c.reserve_in_both.ensures.first_items ∙ c.first.view_is) c.split-within.ensures.within
    (c.in_ok-reply.ensures.run is_there now
    (c.seen_in_two-seen.ensures ∙ ap (seen_of is_there now) c.rows-rows.ensures)).noted

pub note-requires-2-clause-noted : goal.note-requires-2-clause-noted
note-requires-2-clause-noted c =
    let is_there = has_row_in_two c.args.first.now c.args.second.now in
    let now = rows_in_two c.args.first.now c.args.second.now in
    noted_outside c.args.first.now c.args.second.now
    (stripe_held c.deref-2.result.now c.reserve_in_both.new.second.items c.second.inside.greatest)
    c.in_ok-reply.entries c.split-within.result.1
    (ap₂ (λ (bs : List HeldRow) (js : List Journaled). stripe_held bs js c.second.inside.greatest)
    c.deref-2.ensures.value c.reserve_in_both.ensures.second_items ∙ c.second.view_is) c.split-within.ensures.outside
    (c.in_ok-reply.ensures.run is_there now
    (c.seen_in_two-seen.ensures ∙ ap (seen_of is_there now) c.rows-rows.ensures)).noted

pub returns-clause-exact : goal.returns-clause-exact
returns-clause-exact c names same =
    let stamp = c.args.stamp in
    let is_there = has_row_in_two c.args.first.now c.args.second.now in
    let now = rows_in_two c.args.first.now c.args.second.now in
    c.new.ensures ∙ ap (noted_of stamp.worker stamp.place stamp.index stamp.tick)
    ((c.in_ok-reply.ensures.run is_there now
    (c.seen_in_two-seen.ensures ∙ ap (seen_of is_there now) c.rows-rows.ensures)).exact names same)

pub returns-clause-fits : goal.returns-clause-fits
returns-clause-fits c names same =
    let is_there = has_row_in_two c.args.first.now c.args.second.now in
    let now = rows_in_two c.args.first.now c.args.second.now in
    subst (λ (r : Applied). Fits names (executed_as (plain c.args.request.now) r)) (sym c.new.ensures)
    ((c.in_ok-reply.ensures.run is_there now
    (c.seen_in_two-seen.ensures ∙ ap (seen_of is_there now) c.rows-rows.ensures)).fits names same)

pub returns-clause-refused : goal.returns-clause-refused
returns-clause-refused c =
    let is_there = has_row_in_two c.args.first.now c.args.second.now in
    let now = rows_in_two c.args.first.now c.args.second.now in
    let taken = (c.in_ok-reply.ensures.run is_there now
    (c.seen_in_two-seen.ensures ∙ ap (seen_of is_there now) c.rows-rows.ensures)).taken in
    subst (λ (why : Option StampFault). IsRefusedFor why (Ok c.new.result))
    (sym (ap (λ (b : Bool). refused_for is_there b now (rows_in c.args.touched.now)) (sym c.are_above.ensures) ∙ taken))
    tt
