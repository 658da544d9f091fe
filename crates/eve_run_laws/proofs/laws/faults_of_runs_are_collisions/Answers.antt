use Rattle.eve_run_laws.proofs.AcceptedRuns.{fault_collides}
use Rattle.eve_run_laws.proofs.laws.faults_of_runs_are_collisions.Goals as goal

pub returns : goal.returns
returns c = λ w mixer t f asked run limits is.
    fault_collides c.cuts_keep_requests.ensures c.sound_sections_have_no_fault.ensures w mixer t asked run limits f is
