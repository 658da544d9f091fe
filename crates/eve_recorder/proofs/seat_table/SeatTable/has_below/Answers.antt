use Rattle.std.proofs.Common.{subst, sym, true≢false, IsTrue}
use Rattle.eve_recorder.proofs.seat_table.SeatTable.has_below.Goals as goal

pub returns-then-not-has : goal.returns-then-not-has
returns-then-not-has g c = (
  (λ t. absurd (true≢false (sym t))),
  λ all. subst IsTrue c.if-not-has.true
      (c.has.ensures.1 (all c.loop-place.place c.loop-place-test.true)),
)
