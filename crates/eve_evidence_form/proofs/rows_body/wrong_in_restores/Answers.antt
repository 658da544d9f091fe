use Rattle.std.proofs.Common.{◌+◌, ◌*◌, arith}
use Rattle.eve_evidence_form.specs.RowsBody.{restore_fields}
use Rattle.eve_evidence_form.proofs.FirstWrongFields.{part_right, part_wrong}
use Rattle.eve_evidence_form.proofs.rows_body.wrong_in_restores.Goals as goal

pub returns-in-Some-clause-fields : goal.returns-in-Some-clause-fields
returns-in-Some-clause-fields c =
    part_wrong (λ i. restore_fields c.args.rows i (12 + 20 * i) c.args.body.now) c.loop-i.i c.args.count c.in-Some.wrong
    (omega arith) c.loop-i.invariant.right c.in-Some.ensures.fields

pub loop-i-preserved : goal.loop-i-preserved
loop-i-preserved c = record {
  right = part_right (λ i. restore_fields c.args.rows i (12 + 20 * i) c.args.body.now) c.loop-i.i
      c.loop-i.invariant.right c.in_default.ensures.fields;
  stands = omega (arith, c.in_default.ensures.stands);
}
