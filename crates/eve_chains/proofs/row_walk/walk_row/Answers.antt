use Rattle.std.proofs.Common.{◌≡◌, ◌+◌, ◌++◌, ℕ, List, map, take, refl, sym, subst, ap, ◌∙◌, arith}
use Rattle.std.proofs.lemmas.List.{take_all}
use Rattle.eve_chains.specs.inner.Bases.{base_at}
use Rattle.eve_chains.specs.Changes.{changes_along}
use Rattle.eve_chains.specs.inner.Gathered.{as_noted, own_in, own_along}
use Rattle.eve_chains.specs.inner.Grouped.{standing_at}
use Rattle.eve_chains.specs.Rows.{Noted}
use Rattle.eve_chains.specs.inner.Walked.{HasChecked, IsFirstOnRow}
use Rattle.eve_chains.specs.declared.note.Note.{Note}
use Rattle.eve_chains.specs.declared.grouped.Grouped.{Grouped}
use Rattle.eve_chains.proofs.GatheredEntries.{along_more}
use Rattle.eve_chains.proofs.WalkedRows.{changes_more}
use Rattle.eve_chains.proofs.row_walk.walk_row.Goals as goal

pub loop-part-init : goal.loop-part-init
loop-part-init c = record {
  checked = c.new-walk.ensures c.args.replica (base_at c.args.bases.now c.args.row) (sym c.row.ensures);
  changes = refl;
}

pub loop-part-preserved : goal.loop-part-preserved
loop-part-preserved c =
    let row = c.args.row in
    let parts = c.args.parts.now in
    let k = c.loop-part.part-index in
    let p = c.part-item.result in
    let before = own_along row (take k parts) in
    let same : c.number-number.result ≡ row = c.number-number.ensures.number in
    let own : map as_noted c.group.result.now ≡ own_in row p =
    ap (map as_noted) (c.group.ensures ∙ ap (λ (n : ℕ). standing_at n p) same) in
    let more : before ++ map as_noted c.group.result.now ≡ own_along row (take (k + 1) parts) =
    ap (λ (ns : List Noted). before ++ ns) own
    ∙ sym (along_more row parts k p c.loop-part-test.true (sym c.part-item.is)) in
    record {
      checked = subst (λ (ns : List Noted). HasChecked c.args.replica (base_at c.args.bases.now row) ns
          c.walk_part.new.walk)
          more (c.in_ok-walk_part.ensures.checked before c.loop-part.invariant.checked);
      changes = c.in_ok-walk_part.ensures.changes
          ∙ changes_more c.args.changes.now.items before (map as_noted c.group.result.now) c.loop-part.changes.items
          c.loop-part.invariant.changes
          ∙ ap (changes_along c.args.changes.now.items) more;
    }

pub returns-clause-first : goal.returns-clause-first
returns-clause-first c =
    subst (λ (ps : List (Grouped Note)). IsFirstOnRow c.args.replica (base_at c.args.bases.now c.args.row)
    (own_along c.args.row ps) c.loop-part.walk.first)
    (take_all c.loop-part.part-index c.args.parts.now (omega (arith, c.loop-part-test.false)))
    c.loop-part.invariant.checked.first
