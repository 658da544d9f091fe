use Rattle.eve_workload.proofs.Wholes.{whole_right, whole_held, whole_text}
use Rattle.eve_workload.proofs.workload.whole.Goals as goal

pub invariant_of-result : goal.invariant_of-result
invariant_of-result c = whole_held c.args.draft c.requires.0 c.requires.1 c.requires.2

pub returns-clause-right : goal.returns-clause-right
returns-clause-right c = whole_right c.args.draft c.requires.0 c.requires.1 c.requires.2

pub returns-clause-text : goal.returns-clause-text
returns-clause-text c = λ before keeps ends. whole_text c.args.draft before keeps ends
