use Rattle.eve_audit.specs.inner.Findings.{AreTrueSoFar}
use Rattle.eve_audit.proofs.findings.judge_in_turn.Given as goal

abbrev pub invariant-loop-e : goal.invariant-loop-e
invariant-loop-e g l = AreTrueSoFar l.named.trace l.findings.items
