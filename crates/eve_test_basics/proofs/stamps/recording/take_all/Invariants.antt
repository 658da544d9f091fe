use Rattle.std.proofs.Common.{◌≡◌}
use Rattle.eve_test_basics.proofs.stamps.recording.take_all.Given as goal

abbrev pub invariant-loop : goal.invariant-loop
invariant-loop g l = (goal.iterator-loop g).can_next l.iterator' × (goal.iterator-loop g).is_finite l.iterator'
    × (l.seat.recorder ≡ l.initial.seat.recorder)
