use Rattle.eve_workload.proofs.request_ids.add_id.Goals as goal

pub returns-clause-kept : goal.returns-clause-kept
returns-clause-kept c = λ other. c.in_ok-insert.ensures.updates.0 other
