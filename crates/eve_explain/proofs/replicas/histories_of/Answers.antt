use Rattle.std.proofs.Common.{rules, ◌<◌, ◌++◌, ◌∷◌, [], length, sym, ◌∙◌, arith}
use Rattle.std.proofs.lemmas.List.{take_all}
use Rattle.eve_grammar.proofs.Lists.{take_one_more}
use Rattle.eve_history.specs.SectionHistory.{section_histories, section_history}
use Rattle.eve_history.proofs.RightSections.{as_many_told, section_history_at}
use Rattle.eve_explain.proofs.replicas.histories_of.Goals as goal

pub loop-e-preserved : goal.loop-e-preserved
loop-e-preserved c =
    let t = c.args.trace.now in
    let e = c.loop-e.e in
    let there : e < length t.sections = search rules in
    c.in_ok-push.ensures.items
    ∙ (λ j. c.loop-e.invariant j ++ c.in_ok-history.ensures.history j ∷ [])
    ∙ sym (take_one_more (section_histories t) e (section_history t e) (section_history_at t e there))

pub returns : goal.returns
returns c =
    let t = c.args.trace.now in
    let many = as_many_told t in
    c.loop-e.invariant
    ∙ take_all c.loop-e.e (section_histories t)
    (omega (arith, c.loop-e-test.false, c.section_count-e-end.ensures, many))
