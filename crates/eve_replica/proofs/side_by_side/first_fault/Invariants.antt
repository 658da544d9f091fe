use Rattle.std.proofs.Common.{◌≡◌, ℕ, ◌<◌, false, get_or}
use Rattle.eve_replica.specs.declared.server.Server.{Server}
use Rattle.eve_replica.proofs.side_by_side.first_fault.Given as goal

abbrev pub invariant-loop-server : goal.invariant-loop-server
invariant-loop-server l =
    (k : ℕ) → k < l.server-index → (d : Server) → (get_or l.servers k d).replica.is_broken ≡ false
