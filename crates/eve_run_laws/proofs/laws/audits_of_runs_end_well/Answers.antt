use Rattle.eve_run_laws.proofs.AcceptedRuns.{ends_well}
use Rattle.eve_run_laws.proofs.laws.audits_of_runs_end_well.Goals as goal

pub returns : goal.returns
returns c = λ limit mixer format input written line status ended all_bytes run audit.
    ends_well written line ended run.trace audit c.verdicts_are_unique.ensures
    (c.runs_are_accepted.ensures run.workload mixer run.trace written all_bytes run.typed.right run.run run.spelled)
