use Rattle.std.proofs.Common.{ℕ, ◌<◌, get_or}
use Rattle.eve_replica.specs.declared.server.Server.{Server}
use Rattle.eve_replica.proofs.TokenCounts.{IsNoMajority}
use Rattle.eve_replica.proofs.run_state.decided.Given as goal

abbrev pub invariant-loop-server : goal.invariant-loop-server
invariant-loop-server l =
    (k : ℕ) → k < l.server-index → (d : Server) → IsNoMajority l.servers (get_or l.servers k d)
