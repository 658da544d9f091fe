use Rattle.std.proofs.Common.{ℕ, List, arith}
use Rattle.eve_floor.specs.SharedBatches.{AreFreeAt, AreFreshAt}
use Rattle.eve_floor.proofs.Zipped.{zip_weaker}
use Rattle.eve_floor.proofs.seats.seat_all.Goals as goal

pub overflow_cast-number : goal.overflow_cast-number
overflow_cast-number g c = omega (arith, c.loop-number-test.true, c.len-number-end.ensures, c.requires.few)

pub returns-clause-free : goal.returns-clause-free
returns-clause-free g c =
    let names : List (List ℕ) = c.args.crew.now.floor.now in
    zip_weaker (AreFreshAt names) (AreFreeAt names) c.args.crew.now.batches.now c.loop-number.free.items
    (λ b s fresh. fresh.free) c.loop-number.invariant.free
