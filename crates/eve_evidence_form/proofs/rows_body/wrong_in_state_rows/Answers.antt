use Rattle.std.proofs.Common.{◌+◌, ◌*◌, arith}
use Rattle.eve_evidence_form.specs.RowsBody.{state_row_fields}
use Rattle.eve_evidence_form.proofs.FirstWrongFields.{part_right, part_wrong}
use Rattle.eve_evidence_form.proofs.rows_body.wrong_in_state_rows.Goals as goal

pub returns-in-Some : goal.returns-in-Some
returns-in-Some c =
    part_wrong (λ i. state_row_fields i (8 + 16 * i) c.args.body.now) c.loop-i.i c.args.rows c.in-Some.wrong
    (omega arith) c.loop-i.invariant c.in-Some.ensures

pub loop-i-preserved : goal.loop-i-preserved
loop-i-preserved c =
    part_right (λ i. state_row_fields i (8 + 16 * i) c.args.body.now) c.loop-i.i c.loop-i.invariant
    c.in_default.ensures
