use Rattle.eve_audit.specs.inner.Findings.{AreTrueSoFar}
use Rattle.eve_audit.proofs.findings.due_place.Given as goal

abbrev pub invariant-loop : goal.invariant-loop
invariant-loop g l = AreTrueSoFar l.trace l.findings
