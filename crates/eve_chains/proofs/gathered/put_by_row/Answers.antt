use Rattle.std.proofs.Common.{◌++◌, ◌∷◌, ◌<◌, [], List, All, length, sym, subst, ap, ◌∙◌, arith}
use Rattle.std.proofs.lemmas.List.Elements.{All-nil}
use Rattle.eve_chains.specs.inner.Gathered.{HasGathered}
use Rattle.eve_chains.specs.inner.Grouped.{with_key}
use Rattle.eve_chains.specs.declared.note.Note.{Note}
use Rattle.eve_chains.specs.declared.grouped.Grouped.{Grouped}
use Rattle.eve_chains.proofs.GatheredEntries.{put_behind}
use Rattle.eve_chains.proofs.gathered.put_by_row.Goals as goal

pub of-requires-clause-keys : goal.of-requires-clause-keys
of-requires-clause-keys c =
    subst (λ (ns : List Note). All (λ n. n.row < c.args.rows) ns) (sym c.as_slice.ensures.value) c.requires.below

pub returns-clause-few : goal.returns-clause-few
returns-clause-few c =
    omega (arith, ap (λ (ns : List Note). length ns) c.clear.ensures.items, c.requires.many)

pub returns-clause-below : goal.returns-clause-below
returns-clause-below c =
    subst (λ (ns : List Note). All (λ n. n.row < c.args.rows) ns) (sym c.clear.ensures.items)
    (All-nil (λ (n : Note). n.row < c.args.rows))

pub returns-clause-gathered : goal.returns-clause-gathered
returns-clause-gathered c ns known =
    let rows = c.args.rows in
    let parts = c.args.parts.now.items in
    let part = c.in_ok-part.part in
    subst (λ (ps : List (Grouped Note)). HasGathered rows ns ps c.clear.new.self.items) (sym c.in_ok-push.ensures.items)
    (subst (HasGathered rows ns (parts ++ part ∷ [])) (sym c.clear.ensures.items)
    (put_behind rows ns parts c.args.notes.now.items part c.in_ok-part.ensures.order
    (λ row lt. c.in_ok-part.ensures.groups row lt ∙ ap (with_key (λ n. n.row) row) c.as_slice.ensures.value) known))
