use Rattle.std.proofs.Common.{◌∙◌, sym}
use Rattle.eve_objects.proofs.Names.{no_text, text_whole}
use Rattle.eve_objects.proofs.members.text_of.Goals as goal

pub returns-in-Ok : goal.returns-in-Ok
returns-in-Ok c =
    c.in-Ok.ensures.cases.0 ∙ sym (text_whole c.args.bytes.now c.in-Ok.ensures.cases.1)

pub returns-in-Err : goal.returns-in-Err
returns-in-Err c = sym (no_text c.args.bytes.now c.in-Err.ensures.cases.0)
