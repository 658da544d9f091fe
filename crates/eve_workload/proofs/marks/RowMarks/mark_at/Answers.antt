use Rattle.std.proofs.Common.{true, false, refl, sym, ◌∙◌}
use Rattle.std.proofs.Math.Bool.{or-false}
use Rattle.std.proofs.lemmas.Option.{slice_get_read}
use Rattle.eve_workload.specs.inner.GroupSets.{has}
use Rattle.eve_workload.proofs.RowsMarked.{marked_at}
use Rattle.eve_workload.proofs.marks.RowMarks.mark_at.Goals as goal

pub returns-then-is_write-clause-marks : goal.returns-then-is_write-clause-marks
returns-then-is_write-clause-marks c row stands =
    marked_at c.args.self.now c.args.place c.args.group row c.index_mut-marks.result.now _ c.args.kind true
    (slice_get_read c.args.self.now.marks.items _ c.args.place _ refl c.requires.there c.index_mut-marks.ensures.value)
    stands refl (sym c.is_write.ensures ∙ c.if-is_write.true) c.add.ensures c.add-then-is_write.ensures

pub returns-else-is_write-clause-marks : goal.returns-else-is_write-clause-marks
returns-else-is_write-clause-marks c row stands =
    marked_at c.args.self.now c.args.place c.args.group row c.index_mut-marks.result.now _ c.args.kind false
    (slice_get_read c.args.self.now.marks.items _ c.args.place _ refl c.requires.there c.index_mut-marks.ensures.value)
    stands refl (sym c.is_write.ensures ∙ c.if-is_write.false) c.add.ensures
    (λ k. sym (or-false (has c.index_mut-marks.result.now.written k)))
