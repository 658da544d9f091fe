use Rattle.std.proofs.Common.{arith}
use Rattle.eve_views.specs.declared.fault.Code.TheVariants as code
use Rattle.eve_evidence_form.proofs.FirstFormFaults.{stands_as, sized_at_magic, sized_at_head, short_at_body}
use Rattle.eve_evidence_form.proofs.FirstFormFaults.{other_codes}
use Rattle.eve_evidence_form.proofs.form.form_evidence.Goals as goal

pub length_fault-requires : goal.length_fault-requires
length_fault-requires c = (stands_as code.Length c.args.bytes.now c.args.fault.now c.requires c.in-Length.is).1

pub first_six-requires : goal.first_six-requires
first_six-requires c = omega (arith, sized_at_magic c.args.bytes.now c.args.fault.now c.requires c.in-Magic.is)

pub head_fault-number-requires : goal.head_fault-number-requires
head_fault-number-requires c = record {
  long = omega (arith, sized_at_head c.args.bytes.now c.args.fault.now c.requires c.in-Head.is);
  wrong = (stands_as code.Head c.args.bytes.now c.args.fault.now c.requires c.in-Head.is).1;
}

pub wrong_body_at-wrong-requires : goal.wrong_body_at-wrong-requires
wrong_body_at-wrong-requires c = record {
  wrong = stands_as code.Body c.args.bytes.now c.args.fault.now c.requires c.in-Body.is;
  short = short_at_body c.args.bytes.now c.args.fault.now c.requires c.in-Body.is;
}

pub unreachable-requires : goal.unreachable-requires
unreachable-requires c =
    other_codes c.args.fault.now.code c.args.bytes.now c.args.fault.now.offset c.requires.is.stands
    c.in_default.not-Length c.in_default.not-Magic c.in_default.not-Head c.in_default.not-Frame c.in_default.not-Body
