use Rattle.std.proofs.Common.{slice_get, sym, ap, ◌∙◌}
use Rattle.eve_evidence.proofs.Lists.{same_more}
use Rattle.eve_evidence_outcomes.proofs.apart.first_apart.Goals as goal

pub loop-i-preserved : goal.loop-i-preserved
loop-i-preserved c =
    same_more c.args.own.now c.args.its.now c.loop-i.i c.get-found.result c.get-due.result
    (ap (slice_get c.args.own.now) (sym c.row_of-row.ensures) ∙ c.get-found.ensures)
    (ap (slice_get c.args.its.now) (sym c.row_of-row.ensures) ∙ c.get-due.ensures)
    (c.is_same.ensures.0 c.if-not-is_same.false) c.loop-i.invariant
