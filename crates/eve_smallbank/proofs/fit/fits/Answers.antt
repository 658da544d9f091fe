use Rattle.std.proofs.Common.{◌≡◌, ℤ, List, map, take, refl, sym, ◌∙◌}
use Rattle.std.proofs.lemmas.Bool.{false≢true}
use Rattle.eve_smallbank.specs.declared.entry.Entry.{Entry}
use Rattle.eve_smallbank.specs.SmallBank.{plain}
use Rattle.eve_smallbank.proofs.DecisionEntries.{other_length, judged_by_entries, judged_by_reply, seen_in}
use Rattle.eve_smallbank.proofs.DecisionEntries.{as_many_versions}
use Rattle.eve_smallbank.proofs.fit.fits.Goals as goal

pub returns-then-len : goal.returns-then-len
returns-then-len c names is_reached = (
  λ e. absurd (false≢true e),
  λ fits. absurd (other_length names (plain c.args.request.now) c.args.touched.now c.rows-rows.result c.args.reply
      c.args.entries.now
      is_reached c.rows-rows.ensures (λ e. c.if-len.true (c.len.ensures.len ∙ e ∙ sym c.len-2.ensures.len)) fits),
)

pub returns-then-is_same : goal.returns-then-is_same
returns-then-is_same c names is_reached =
    let es : List Entry = c.args.entries.now in
    let values : List ℤ = take c.len-3.result c.values_seen-seen.result in
    let seen : values ≡ map (λ e. e.seen) es = seen_in c.values_seen-seen.result c.rows-rows.result es c.len-3.result
    c.len-2.result c.len.result
    c.len-3.ensures.len c.len-2.ensures.len c.if-len.false c.len.ensures.len c.values_seen-seen.ensures in
    judged_by_entries names (plain c.args.request.now) c.args.touched.now c.rows-rows.result c.args.reply es is_reached
    c.rows-rows.ensures
    values c.decide-decision.result seen
    (c.decide-decision.ensures.fits names (map (λ e. e.version) es) is_reached (as_many_versions values es seen))
    (c.decide-decision.ensures.only names
    (record { request = plain c.args.request.now; reply = c.args.reply; entries = es }) is_reached refl (sym seen))
    c.is_same.result c.is_same.ensures c.are_noted.result c.are_noted.ensures c.if-is_same.true

pub returns-else-is_same : goal.returns-else-is_same
returns-else-is_same c names is_reached =
    let es : List Entry = c.args.entries.now in
    let values : List ℤ = take c.len-3.result c.values_seen-seen.result in
    let seen : values ≡ map (λ e. e.seen) es = seen_in c.values_seen-seen.result c.rows-rows.result es c.len-3.result
    c.len-2.result c.len.result
    c.len-3.ensures.len c.len-2.ensures.len c.if-len.false c.len.ensures.len c.values_seen-seen.ensures in
    judged_by_reply names (plain c.args.request.now) c.args.touched.now c.rows-rows.result c.args.reply es is_reached
    c.rows-rows.ensures
    values c.decide-decision.result seen
    (c.decide-decision.ensures.fits names (map (λ e. e.version) es) is_reached (as_many_versions values es seen))
    (c.decide-decision.ensures.only names
    (record { request = plain c.args.request.now; reply = c.args.reply; entries = es }) is_reached refl (sym seen))
    c.is_same.result c.is_same.ensures c.if-is_same.false
