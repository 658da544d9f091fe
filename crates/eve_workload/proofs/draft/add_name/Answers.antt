use Rattle.eve_workload.proofs.draft.add_name.Goals as goal

pub returns-clause-kept : goal.returns-clause-kept
returns-clause-kept c = λ other. c.in_ok-insert.ensures.updates.0 (record c.args.name { now = other })
