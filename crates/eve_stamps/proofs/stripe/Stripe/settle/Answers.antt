use Rattle.std.proofs.Common.{◌≡◌, List, [], filter, sym, subst, ◌∙◌, ap, ap₂}
use Rattle.std.specs.Vec.{with_items}
use Rattle.std.proofs.lemmas.List.{with_items_is}
use Rattle.eve_stamps.specs.declared.journal.Journaled.{Journaled}
use Rattle.eve_stamps.specs.Stripes.{HeldRow, Stripe, RowsRise, JournalLiesIn, settled_to, table_in, rows_in_table}
use Rattle.eve_stamps.specs.Stripes.{table_after_journal}
use Rattle.eve_stamps.specs.HeldRows.{stripe_held}
use Rattle.eve_stamps.proofs.JournalLaws.{up_to, behind}
use Rattle.eve_stamps.proofs.StripeLaws.{held_settled}
use Rattle.eve_stamps.proofs.stripe.Stripe.settle.Goals as goal

committed : (c : goal.After-self-1) → (with_items c.self.inside.base c.settle_up_to.new.rows).items
    ≡ rows_in_table (table_after_journal (table_in c.self.inside.base.items)
    (filter (up_to c.args.tick) c.self.inside.journal.items)) c.self.inside.base.items
committed c =
    with_items_is c.self.inside.base c.settle_up_to.new.rows (c.settle_up_to.auto.rows ∙ c.deref_mut.ensures.len)
    ∙ c.settle_up_to.ensures.rows
    ∙ ap (λ (bs : List HeldRow). rows_in_table
    (table_after_journal (table_in bs) (filter (up_to c.args.tick) c.self.inside.journal.items)) bs)
    c.deref_mut.ensures.value

-- where all is settled, the rows are those that are committed
whole : (c : goal.After-clear) → (filter (up_to c.args.tick) c.self.inside.journal.items ≡ c.self.inside.journal.items)
    × (filter (behind c.args.tick) c.self.inside.journal.items ≡ [])
whole c = let all = c.if-is_all_up_to.true in (
  subst (λ (s : Stripe). filter (up_to c.args.tick) s.journal ≡ s.journal) (sym c.self.view_is)
      (c.is_all_up_to.ensures.journal all),
  subst (λ (s : Stripe). filter (behind c.args.tick) s.journal ≡ []) (sym c.self.view_is)
      (c.is_all_up_to.ensures.rest all),
)

as_now : (c : goal.After-clear) → c.self.inside.rows.items
    ≡ rows_in_table (table_after_journal (table_in c.self.inside.base.items)
    (filter (up_to c.args.tick) c.self.inside.journal.items)) c.self.inside.base.items
as_now c = let base : List HeldRow = c.self.inside.base.items in
    c.self.invariant.as_now ∙ ap (λ (js : List Journaled). rows_in_table (table_after_journal (table_in base) js) base)
    (sym (whole c).0)

pub invariant_of-self : goal.invariant_of-self
invariant_of-self c = let s = c.self.inside in
    rw (c.copy_from_slice.ensures.items, c.deref.ensures.value, c.clear.ensures.items)
    (held_settled s.base.items s.rows.items s.rows.items s.journal.items [] s.greatest c.args.tick c.self.invariant
    (as_now c) (sym (whole c).1))

pub settle_up_to-requires-clause-rise : goal.settle_up_to-requires-clause-rise
settle_up_to-requires-clause-rise c = subst RowsRise (sym c.deref_mut.ensures.value) c.self.invariant.stands.rows

pub settle_up_to-requires-clause-own : goal.settle_up_to-requires-clause-own
settle_up_to-requires-clause-own c =
    subst (λ (bs : List HeldRow). JournalLiesIn bs c.self.inside.journal.items) (sym c.deref_mut.ensures.value)
    c.self.invariant.stands.own

pub invariant_of-self-2 : goal.invariant_of-self-2
invariant_of-self-2 c =
    held_settled c.self.inside.base.items c.self.inside.rows.items
    (with_items c.self.inside.base c.settle_up_to.new.rows).items c.self.inside.journal.items
    c.settle_up_to.new.journal.items c.self.inside.greatest c.args.tick c.self.invariant (committed c)
    c.settle_up_to.ensures.journal

pub returns : goal.returns
returns c =
    ap₂ (λ (bs : List HeldRow) (js : List Journaled). stripe_held bs js c.self.inside.greatest) (committed c)
    c.settle_up_to.ensures.journal
    ∙ ap (settled_to c.args.tick) c.self.view_is
