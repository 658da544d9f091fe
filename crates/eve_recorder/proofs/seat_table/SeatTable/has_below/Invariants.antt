use Rattle.eve_recorder.specs.SeatTables.{seats_in_table, HasBelow}
use Rattle.eve_recorder.proofs.seat_table.SeatTable.has_below.Given as goal

abbrev pub invariant-loop-place : goal.invariant-loop-place
invariant-loop-place g l = HasBelow l.place (seats_in_table l.self)
