use Rattle.std.proofs.Common.{length}
use Rattle.eve_history.specs.KeptSections.{kept_section, HasCome, AreNotesOf}
use Rattle.eve_history.proofs.history.History.of.Given as goal

abbrev pub invariant-loop-step : goal.invariant-loop-step
invariant-loop-step l = HasCome l.trace l.e l.steps (kept_section l.notes) × AreNotesOf l.trace l.notes

abbrev pub decreases-loop-step : goal.decreases-loop-step
decreases-loop-step l = length l.steps
