use Rattle.std.proofs.Common.{◌≡◌, ap}
use Rattle.eve_views.specs.Code.{phase_of}
use Rattle.eve_grammar.proofs.Spelled.{limits_of_spelled}
use Rattle.eve_run_laws.proofs.OutcomeVerdicts.{standing_outcome_collides}
use Rattle.eve_run_laws.proofs.laws.outcome_verdicts_are_collisions.Goals as goal

pub returns : goal.returns
returns c = λ bytes t f spells verdict outcome.
    let late : phase_of f.code ≡ 10 = ap phase_of outcome in
    standing_outcome_collides bytes t f (λ u other. c.bytes_spell_one_trace.ensures bytes u t other spells) outcome
    (limits_of_spelled bytes t spells) (c.faults_of_agreement_come_late.ensures bytes t f verdict spells late)
    verdict.stands
