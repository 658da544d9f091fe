use Rattle.std.proofs.Common.{length}
use Rattle.eve_evidence.proofs.StepsAhead.{Goes}
use Rattle.eve_evidence.proofs.section.section_evidence.Given as goal

abbrev pub invariant-loop-step : goal.invariant-loop-step
invariant-loop-step l = Goes l.code l.trace l.e l.place l.steps l.course

abbrev pub decreases-loop-step : goal.decreases-loop-step
decreases-loop-step l = length l.steps
