use Rattle.std.proofs.Common.{◌≡◌, ◌+◌, ◌++◌, ◌∷◌, [], List, map, take, sym, subst, ap, ◌∙◌, append_assoc, arith}
use Rattle.std.proofs.lemmas.List.{take_all}
use Rattle.eve_chains.specs.inner.Bases.{base_at}
use Rattle.eve_chains.specs.Changes.{changes_along}
use Rattle.eve_chains.specs.inner.Gathered.{as_noted}
use Rattle.eve_chains.specs.Rows.{Noted}
use Rattle.eve_chains.specs.inner.Walked.{HasChecked}
use Rattle.eve_chains.specs.declared.note.Note.{Note}
use Rattle.eve_chains.proofs.GatheredEntries.{noted_more}
use Rattle.eve_chains.proofs.WalkedRows.{changes_more}
use Rattle.eve_chains.proofs.row_walk.walk_part.Goals as goal

pub loop-note-preserved : goal.loop-note-preserved
loop-note-preserved c =
    let notes = c.args.notes.now in
    let k = c.loop-note.note-index in
    let n = c.note-item.result in
    let bases = base_at c.args.bases.now c.args.row in
    let before = map as_noted (take k notes) in
    let more : before ++ as_noted n ∷ [] ≡ map as_noted (take (k + 1) notes) =
    sym (noted_more notes k n c.loop-note-test.true (sym c.note-item.is)) in
    record {
      checked = λ ns known. subst (λ (ms : List Noted). HasChecked c.args.replica bases ms c.meet.new.self)
          (append_assoc ns before (as_noted n ∷ []) ∙ ap (λ (ms : List Noted). ns ++ ms) more)
          (c.meet.ensures (ns ++ before) (c.loop-note.invariant.checked ns known));
      changes = c.in_ok-note_change.ensures
          ∙ changes_more c.args.changes.now.items before (as_noted n ∷ []) c.loop-note.changes.items
          c.loop-note.invariant.changes
          ∙ ap (changes_along c.args.changes.now.items) more;
    }

pub returns-clause-checked : goal.returns-clause-checked
returns-clause-checked c ns known =
    subst (λ (xs : List Note). HasChecked c.args.replica (base_at c.args.bases.now c.args.row) (ns ++ map as_noted xs)
    c.loop-note.walk)
    (take_all c.loop-note.note-index c.args.notes.now (omega (arith, c.loop-note-test.false)))
    (c.loop-note.invariant.checked ns known)
