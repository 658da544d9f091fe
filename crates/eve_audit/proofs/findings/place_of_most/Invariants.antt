use Rattle.std.proofs.Common.{◌<◌, IfSome, length}
use Rattle.eve_audit.proofs.findings.place_of_most.Given as goal

abbrev pub invariant-loop-i : goal.invariant-loop-i
invariant-loop-i l = IfSome l.most (λ place. place < length l.findings)
