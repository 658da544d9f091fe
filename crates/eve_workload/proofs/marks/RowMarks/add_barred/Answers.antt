use Rattle.std.proofs.Common.{sym, ap, ◌∙◌}
use Rattle.std.specs.Prelude.{◌||◌}
use Rattle.eve_smallbank.specs.declared.entry.Kind.{Kind}
use Rattle.eve_workload.specs.inner.GroupSets.{has}
use Rattle.eve_workload.specs.inner.Marks.{groups_barred}
use Rattle.eve_workload.proofs.RowsMarked.{barred_by}
use Rattle.eve_workload.proofs.marks.RowMarks.add_barred.Goals as goal

pub returns-in-Read : goal.returns-in-Read
returns-in-Read c group =
    let barred = barred_by c.args.self.now c.args.row c.args.kind c.in-Some.place c.index-marks.result.now
    c.in-Some.ensures.some c.index-marks.ensures group in
    c.add_all.ensures group ∙ ap (λ b. has c.args.groups.now group || b)
    (sym (barred ∙ ap (λ (kind : Kind). has (groups_barred c.index-marks.result.now kind) group) c.in-Read.is))

pub returns-in-Write : goal.returns-in-Write
returns-in-Write c group =
    let barred = barred_by c.args.self.now c.args.row c.args.kind c.in-Some.place c.index-marks.result.now
    c.in-Some.ensures.some c.index-marks.ensures group in
    c.add_all-in-Write.ensures group ∙ ap (λ b. has c.args.groups.now group || b)
    (sym (barred ∙ ap (λ (kind : Kind). has (groups_barred c.index-marks.result.now kind) group) c.in-Write.is))
