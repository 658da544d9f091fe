use Rattle.std.proofs.Common.{◌++◌, ap, ◌∙◌, arith}
use Rattle.std.proofs.lemmas.List.{take_all}
use Rattle.eve_write.proofs.access_list.push_all.Goals as goal

pub returns : goal.returns
returns c =
    c.loop-place.invariant.0
    ∙ ap (λ es. c.args.list.now.items ++ es) (take_all c.loop-place.place c.args.entries.now (omega arith))
