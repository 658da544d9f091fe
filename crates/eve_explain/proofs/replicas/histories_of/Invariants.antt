use Rattle.std.proofs.Common.{◌≡◌, take}
use Rattle.eve_history.specs.SectionHistory.{section_histories}
use Rattle.eve_explain.proofs.replicas.histories_of.Given as goal

abbrev pub invariant-loop-e : goal.invariant-loop-e
invariant-loop-e l = l.histories.items ≡ take l.e (section_histories l.trace)
