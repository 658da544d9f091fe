use Rattle.std.proofs.Common.{sym, ap, ◌∙◌, arith}
use Rattle.std.proofs.lemmas.List.{drop_all}
use Rattle.eve_agree.specs.inner.Stretches.{first_found}
use Rattle.eve_agree.proofs.due_tokens.first_of_all.Goals as goal

pub returns : goal.returns
returns c =
    let xs = c.args.stretches.now in
    sym (c.loop-stretch.invariant ∙ ap first_found (drop_all c.loop-stretch.stretch-index xs
    (omega (arith, c.loop-stretch-test.false))))
