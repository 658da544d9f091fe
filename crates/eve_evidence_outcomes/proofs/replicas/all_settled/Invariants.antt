use Rattle.std.proofs.Common.{◌≡◌, take}
use Rattle.eve_chains.specs.CommittedValues.{settlings}
use Rattle.eve_evidence_outcomes.proofs.replicas.all_settled.Given as goal

abbrev pub invariant-loop-e : goal.invariant-loop-e
invariant-loop-e g l = l.all.items ≡ take l.e (settlings l.trace)
