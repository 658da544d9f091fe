use Rattle.std.proofs.Common.{◌≡◌}
use Rattle.eve_floor.proofs.gather.take_all.Given as goal

abbrev pub invariant-loop-turn : goal.invariant-loop-turn
invariant-loop-turn g l = (l.taken.taken ≡ l.records.items) × (l.taken.noted ≡ l.fn.taken.noted)
