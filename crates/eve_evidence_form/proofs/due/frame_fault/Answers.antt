use Rattle.std.proofs.Common.{refl, arith, rules}
use Rattle.std.specs.Prelude.{slice_index}
use Rattle.eve_grammar.proofs.KindBytes.{none_allowed}
use Rattle.eve_evidence_form.proofs.due.frame_fault.Goals as goal

pub returns-in_default : goal.returns-in_default
returns-in_default c =
    let h = c.args.reached.now.head in
    let p = c.args.reached.now.place in
    let byte = slice_index c.args.bytes.now 0 in
    (search rules, omega arith, refl, none_allowed h p byte c.in_default.ensures.none)
