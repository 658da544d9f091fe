use Rattle.eve_audit.specs.inner.Findings.{AreOfReplicas}
use Rattle.eve_audit.proofs.findings.nothing_of_each.Given as goal

abbrev pub invariant-loop-e : goal.invariant-loop-e
invariant-loop-e l = AreOfReplicas l.trace l.findings.items
