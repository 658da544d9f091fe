use Rattle.eve_run_laws.proofs.AcceptedRuns.{audited}
use Rattle.eve_run_laws.proofs.laws.runs_are_audited.Goals as goal

pub returns : goal.returns
returns c = λ w mixer t bytes all_bytes asked run spells.
    audited bytes t (λ s is. c.a_yes_is_audited.ensures.audited bytes s t is spells)
    (c.runs_are_accepted.ensures w mixer t bytes all_bytes asked run spells)
