use Rattle.std.proofs.Common.{◌≡◌, ℕ, List, ◌++◌, length}
use Rattle.eve_grammar.specs.Trace.{Step}
use Rattle.eve_evidence.specs.Seen.{NoneAmong}
use Rattle.eve_evidence.proofs.prefix.first_among.Given as goal

abbrev pub invariant-loop-step : goal.invariant-loop-step
invariant-loop-step l =
    (done : List (ℕ × Step)) × (l.fn.steps ≡ done ++ l.steps) × NoneAmong l.row l.left done

abbrev pub decreases-loop-step : goal.decreases-loop-step
decreases-loop-step l = length l.steps
