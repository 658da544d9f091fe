use Rattle.eve_grammar.proofs.Spelled.{limits_of_spelled}
use Rattle.eve_run_laws.proofs.AcceptedRuns.{accepted}
use Rattle.eve_run_laws.proofs.laws.runs_are_accepted.Goals as goal

pub returns : goal.returns
returns c = λ w mixer t bytes all_bytes asked run spells.
    let verdict = c.bytes_have_a_verdict.ensures bytes all_bytes in
    let limits = limits_of_spelled bytes t spells in
    accepted bytes t (λ f is. (c.faults_of_runs_are_collisions.ensures w mixer t f asked run limits is).1)
    (λ u other. c.bytes_spell_one_trace.ensures bytes u t other spells)
    (λ f is. c.form_is_decided.ensures.apart bytes f t all_bytes is spells) verdict.0 verdict.1
