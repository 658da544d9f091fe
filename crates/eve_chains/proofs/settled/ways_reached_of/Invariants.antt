use Rattle.std.proofs.Common.{take}
use Rattle.std.specs.List.{AllZip}
use Rattle.eve_history.specs.SectionHistory.{IsToldOf}
use Rattle.eve_chains.proofs.settled.ways_reached_of.Given as goal

abbrev pub invariant-loop-before : goal.invariant-loop-before
invariant-loop-before l = AllZip (IsToldOf l.history) l.ways_reached.items (take l.before l.history.ways_reached)
