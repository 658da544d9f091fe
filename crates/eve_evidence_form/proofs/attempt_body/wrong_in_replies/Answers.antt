use Rattle.std.proofs.Common.{◌+◌, ◌*◌, arith}
use Rattle.eve_evidence_form.specs.Fields.{reply_fields}
use Rattle.eve_evidence_form.proofs.FirstWrongFields.{part_right, part_wrong}
use Rattle.eve_evidence_form.proofs.attempt_body.wrong_in_replies.Goals as goal

pub returns-in-Some : goal.returns-in-Some
returns-in-Some c =
    part_wrong (λ i. reply_fields (c.args.from + 9 * i) c.args.body.now) c.loop-i.i c.args.count c.in-Some.wrong
    (omega arith) c.loop-i.invariant c.in-Some.ensures

pub loop-i-preserved : goal.loop-i-preserved
loop-i-preserved c =
    part_right (λ i. reply_fields (c.args.from + 9 * i) c.args.body.now) c.loop-i.i c.loop-i.invariant
    c.in_default.ensures
