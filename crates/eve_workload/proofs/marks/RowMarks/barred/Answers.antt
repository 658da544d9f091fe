use Rattle.std.proofs.Common.{ℕ, Bool, sym, ap, ◌∙◌, take}
use Rattle.std.specs.Prelude.{◌||◌}
use Rattle.std.specs.List.{list_any}
use Rattle.std.proofs.lemmas.List.Folds.{list_any_more}
use Rattle.std.proofs.lemmas.Option.{get_or_from_slice_get, slice_get_within}
use Rattle.eve_smallbank.specs.declared.entry.Kind.{Kind}
use Rattle.eve_workload.specs.inner.Marks.{is_barred}
use Rattle.eve_workload.proofs.marks.RowMarks.barred.Goals as goal

pub loop-index-preserved : goal.loop-index-preserved
loop-index-preserved c = λ group.
    let there = slice_get_within c.args.rows.now c.loop-index.index c.at-row.result c.at-row.ensures in
    let here = get_or_from_slice_get c.args.rows.now c.loop-index.index c.at-row.result c.at-row.result
    c.at-row.ensures in
    let bars : ℕ × Kind → Bool = λ row. is_barred c.args.self.now row group in
    let done : Bool = list_any bars (take c.loop-index.index c.args.rows.now) in
    c.add_barred.ensures group ∙ ap (λ b. b || bars c.at-row.result) (c.loop-index.invariant group)
    ∙ sym (list_any_more bars c.args.rows.now c.loop-index.index c.at-row.result there
    ∙ ap (λ row. done || bars row) here)
