use Rattle.std.proofs.Common.{map}
use Rattle.eve_write.specs.Data.{batch}
use Rattle.eve_replica.specs.inner.RunInvariant.{GoesOn, attempt_move, server_with}
use Rattle.eve_replica.proofs.replica.Replica.close_window.Given as goal

abbrev pub invariant-loop-place : goal.invariant-loop-place
invariant-loop-place l =
    GoesOn (attempt_move l.place (map (λ m. batch m.batch) l.window)) (server_with l.fn.self l.fn.steps)
    (server_with l.self l.steps)
