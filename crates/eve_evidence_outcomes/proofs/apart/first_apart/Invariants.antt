use Rattle.std.proofs.Common.{◌≡◌, take}
use Rattle.eve_evidence_outcomes.proofs.apart.first_apart.Given as goal

abbrev pub invariant-loop-i : goal.invariant-loop-i
invariant-loop-i l = take l.i l.own ≡ take l.i l.its
