use Rattle.std.proofs.Common.{rules, ◌≡◌, ◌<◌, ◌++◌, ◌∷◌, [], length, sym, ap, subst, ◌∙◌, arith}
use Rattle.std.proofs.lemmas.List.{take_all}
use Rattle.eve_grammar.proofs.Lists.{take_one_more}
use Rattle.eve_history.specs.SectionHistory.{section_history}
use Rattle.eve_chains.specs.CommittedValues.{settling, settlings}
use Rattle.eve_chains.specs.Faults.{HasNoFault}
use Rattle.eve_evidence_outcomes.proofs.FirstReplicas.{replica_is, settling_at, settlings_count}
use Rattle.eve_evidence_outcomes.proofs.replicas.all_settled.Goals as goal

pub settled_of-requires-clause-history : goal.settled_of-requires-clause-history
settled_of-requires-clause-history g c κs within =
    let t = c.args.trace.now in
    let own = c.history_at-history.ensures in
    own ∙ ap (section_history t) (sym (replica_is t c.loop-e.e c.history_at-history.result.now own))

pub settled_of-requires-clause-none : goal.settled_of-requires-clause-none
settled_of-requires-clause-none g c κs within =
    let t = c.args.trace.now in
    let e = c.loop-e.e in
    let there : e < length t.sections = search rules in
    subst (HasNoFault t) (sym (replica_is t e c.history_at-history.result.now c.history_at-history.ensures))
    (c.requires.none e there)

pub loop-e-preserved : goal.loop-e-preserved
loop-e-preserved g c =
    let t = c.args.trace.now in
    let e = c.loop-e.e in
    let there : e < length t.sections = search rules in
    let one : c.in_ok-settled.settled ≡ settling t e =
    c.in_ok-settled.ensures
    ∙ ap (settling t) (replica_is t e c.history_at-history.result.now c.history_at-history.ensures) in
    c.in_ok-push.ensures.items
    ∙ (λ j. c.loop-e.invariant j ++ one j ∷ [])
    ∙ sym (take_one_more (settlings t) e (settling t e) (settling_at t e there))

pub returns : goal.returns
returns g c =
    let t = c.args.trace.now in
    let count = settlings_count t in
    c.loop-e.invariant
    ∙ take_all c.loop-e.e (settlings t) (omega (arith, c.loop-e-test.false, c.section_count-e-end.ensures, count))
