use Rattle.std.proofs.Common.{◌≡◌}
use Rattle.eve_floor.specs.SharedBatches.{AreOwnAt}
use Rattle.eve_floor.proofs.work.run_part.Given as goal

abbrev pub invariant-loop-turn : goal.invariant-loop-turn
invariant-loop-turn g l = AreOwnAt l.crew.floor.now l.shared l.own × (l.tick.tickets ≡ l.fn.tick.tickets)
