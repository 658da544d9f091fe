use Rattle.std.proofs.Common.{sym, ◌∙◌, arith}
use Rattle.eve_evidence_form.proofs.FirstFrames.{kind_named, named_byte, first_is, long_prefix}
use Rattle.eve_evidence_form.proofs.walk.first_kind.Goals as goal

pub bounds-bytes-0 : goal.bounds-bytes-0
bounds-bytes-0 c = omega (arith, long_prefix c.args.bytes.now c.requires.0 c.requires.1)

pub returns : goal.returns
returns c = λ f b. c.in-Some.ensures.kind ∙ first_is c.args.bytes.now f b

pub unreachable-requires : goal.unreachable-requires
unreachable-requires c =
    let f = c.requires.0 in
    c.in-None.ensures.none (kind_named f) (named_byte f ∙ sym (first_is c.args.bytes.now f c.requires.1))
