use Rattle.std.proofs.Common.{sym, ap, ◌∙◌, arith, take}
use Rattle.std.proofs.lemmas.List.{take_all}
use Rattle.eve_grammar.proofs.Lists.{take_one_more}
use Rattle.eve_frames.specs.Decoded.{access_decoded}
use Rattle.eve_evidence.specs.Sources.{last_left}
use Rattle.eve_evidence.proofs.LastWrites.{left_more, step}
use Rattle.eve_evidence.proofs.sources.left_by_record.Goals as goal

pub loop-i-preserved : goal.loop-i-preserved
loop-i-preserved c =
    let es = (access_decoded c.args.access.now).entries in
    let row = c.args.row in
    c.left_after-left.ensures
    ∙ ap (λ o. step row o c.entry.result) c.loop-i.invariant
    ∙ sym (left_more row (take c.loop-i.i es) c.entry.result)
    ∙ ap (last_left row) (sym (take_one_more es c.loop-i.i c.entry.result c.entry.ensures))

pub returns : goal.returns
returns c =
    let es = (access_decoded c.args.access.now).entries in
    c.loop-i.invariant ∙ ap (last_left c.args.row) (take_all c.loop-i.i es
    (omega (arith, c.len-i-end.ensures.len, c.loop-i-test.false)))
