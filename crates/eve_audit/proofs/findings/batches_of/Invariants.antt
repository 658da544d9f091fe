use Rattle.std.proofs.Common.{◌≤◌}
use Rattle.eve_audit.proofs.findings.batches_of.Given as goal

abbrev pub invariant-loop-before : goal.invariant-loop-before
invariant-loop-before l = l.batches ≤ l.before
