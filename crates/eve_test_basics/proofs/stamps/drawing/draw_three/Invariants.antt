use Rattle.std.proofs.Common.{◌≡◌}
use Rattle.eve_test_basics.proofs.stamps.drawing.draw_three.Given as goal

abbrev pub invariant-loop : goal.invariant-loop
invariant-loop l = l.seat.tickets ≡ l.tickets
