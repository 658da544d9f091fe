use Rattle.std.proofs.Common.{◌≡◌, ◌+◌, ◌++◌, ◌∷◌, ◌<◌, ℕ, List, [], All, map, length, refl, sym, subst, ap, ◌∙◌, arith}
use Rattle.std.specs.List.{AllByRecursion}
use Rattle.std.proofs.lemmas.List.Elements.{All-nil}
use Rattle.eve_grammar.specs.Limits.{row_count}
use Rattle.eve_grammar.specs.Trace.{head_of}
use Rattle.eve_grammar.proofs.Lists.{item_within, all-append}
use Rattle.eve_chains.specs.inner.Gathered.{with_transferred, as_noted, noted_if_settled, notes_between, AreGathered}
use Rattle.eve_chains.specs.inner.Gathered.{HasGathered}
use Rattle.eve_chains.specs.Rows.{Noted}
use Rattle.eve_chains.specs.declared.note.Note.{Note}
use Rattle.eve_chains.proofs.GatheredEntries.{none_gathered, notes_more, gathered_whole, below_noted, noted_below}
use Rattle.eve_chains.proofs.Stretches.{none_between, one_between, between_joined}
use Rattle.eve_chains.proofs.ToldAttempts.{IsRowBelow, as_many_transferred, transferred_at, within_told, below_settled}
use Rattle.eve_chains.proofs.gathered.gather.Goals as goal

none_left : (notes : List Note) → length notes < 1 → notes ≡ []
none_left [] few = refl
none_left (n ∷ notes) few = absurd (omega (arith, few))

pub loop-i-init : goal.loop-i-init
loop-i-init c =
    let h = c.args.section.history.now in
    let rows = c.row_count-rows.result in
    let parts = c.new-parts.result.items in
    let notes = c.new-notes.result.items in
    record {
      below = subst (λ (ns : List Note). All (λ n. n.row < rows) ns) (sym c.new-notes.ensures.items)
          (All-nil (λ (n : Note). n.row < rows));
      gathered = subst (λ (ns : List Noted). HasGathered rows ns parts notes)
          (sym (none_between noted_if_settled (with_transferred h.attempts h.transferred) h.fates c.args.stretch.from))
          (none_gathered rows parts notes c.new-parts.ensures.items c.new-notes.ensures.items);
    }

pub note_attempt-requires-clause-within : goal.note_attempt-requires-clause-within
note_attempt-requires-clause-within c r at =
    let h = c.args.section.history.now in
    within_told c.args.section.trace.now h.replica h c.loop-i.i r c.recall_limits.ensures c.requires.told at

pub put_by_row-requires-clause-below : goal.put_by_row-requires-clause-below
put_by_row-requires-clause-below c =
    let rows = c.row_count-rows.result in
    let t = c.args.section.trace.now in
    let h = c.args.section.history.now in
    let i = c.loop-i.i in
    let old = c.loop-i.notes.items in
    let r = item_within h.attempts i
    (omega (arith, c.loop-i-test.true, c.if-prove.false, c.attempts.ensures.attempts)) in
    let fate = item_within h.fates i (omega (arith, c.loop-i-test.true, c.if-prove.false, c.attempts.ensures.fates)) in
    let transferred = item_within h.transferred i
    (omega (
      arith,
      c.loop-i-test.true,
      c.if-prove.false,
      c.attempts.ensures.attempts,
      as_many_transferred t h.replica h
          c.requires.told,
    )) in
    let more = noted_if_settled (r.0, transferred.0) fate.0 in
    let within = within_told t h.replica h i r.0 c.recall_limits.ensures c.requires.told r.1 in
    noted_below rows c.note_attempt.new.notes.items
    (subst (AllByRecursion (IsRowBelow rows))
    (sym (c.in_ok-note_attempt.ensures r.0 transferred.0 fate.0 r.1 transferred.1 fate.1))
    (all-append (IsRowBelow rows) (map as_noted old) more (below_noted rows old c.loop-i.invariant.below)
    (subst (λ (n : ℕ). AllByRecursion (IsRowBelow n) more) (sym c.row_count-rows.ensures)
    (below_settled (row_count (head_of t)) r.0 transferred.0 fate.0 within))))

pub loop-i-preserved : goal.loop-i-preserved
loop-i-preserved c =
    let rows = c.row_count-rows.result in
    let t = c.args.section.trace.now in
    let h = c.args.section.history.now in
    let i = c.loop-i.i in
    let from = c.args.stretch.from in
    let r = item_within h.attempts i
    (omega (arith, c.loop-i-test.true, c.if-prove.false, c.attempts.ensures.attempts)) in
    let fate = item_within h.fates i (omega (arith, c.loop-i-test.true, c.if-prove.false, c.attempts.ensures.fates)) in
    let transferred = item_within h.transferred i
    (omega (
      arith,
      c.loop-i-test.true,
      c.if-prove.false,
      c.attempts.ensures.attempts,
      as_many_transferred t h.replica h
          c.requires.told,
    )) in
    let xs = with_transferred h.attempts h.transferred in
    let more = noted_if_settled (r.0, transferred.0) fate.0 in
    let joined : notes_between h from i ++ more ≡ notes_between h from (i + 1) =
    ap (λ (ms : List Noted). notes_between h from i ++ ms)
    (one_between noted_if_settled xs h.fates i (r.0, transferred.0) fate.0
    (transferred_at h.attempts h.transferred i r.0 transferred.0 r.1 transferred.1) fate.1)
    ∙ between_joined noted_if_settled xs h.fates from i (i + 1) c.loop-i.auto.i (omega arith) in
    record {
      below = c.in_ok-put_by_row.ensures.below;
      gathered = c.in_ok-put_by_row.ensures.gathered (notes_between h from (i + 1))
          (subst (λ (ns : List Noted). HasGathered rows ns c.loop-i.parts.items c.note_attempt.new.notes.items)
          joined
          (notes_more rows (notes_between h from i) more c.loop-i.parts.items c.loop-i.notes.items
          c.note_attempt.new.notes.items
          (c.in_ok-note_attempt.ensures r.0 transferred.0 fate.0 r.1 transferred.1 fate.1)
          c.loop-i.invariant.gathered));
    }

pub returns : goal.returns
returns c =
    let rows = c.row_count-rows.result in
    let h = c.args.section.history.now in
    let from = c.args.stretch.from in
    let last : c.loop-i.i ≡ c.args.stretch.to = omega (
      arith,
      c.loop-i-test.false,
      c.loop-i.auto.i-end c.requires.within.rising,
    ) in
    let whole = c.in_ok-put_by_row-2.ensures in
    subst (λ (n : ℕ). AreGathered n (notes_between h from c.args.stretch.to) c.put_by_row-2.new.parts.items)
    c.row_count-rows.ensures
    (gathered_whole rows (notes_between h from c.args.stretch.to) c.put_by_row-2.new.parts.items
    c.put_by_row-2.new.notes.items (none_left c.put_by_row-2.new.notes.items whole.few)
    (whole.gathered (notes_between h from c.args.stretch.to)
    (subst (λ (n : ℕ). HasGathered rows (notes_between h from n) c.loop-i.parts.items c.loop-i.notes.items) last
    c.loop-i.invariant.gathered)))
