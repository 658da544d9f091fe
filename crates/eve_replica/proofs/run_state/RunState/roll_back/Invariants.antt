use Rattle.eve_replica.specs.inner.RunInvariant.{Discards}
use Rattle.eve_replica.proofs.ReplicaLists.{AreOn}
use Rattle.eve_replica.proofs.run_state.RunState.roll_back.Given as goal

abbrev pub invariant-loop-server : goal.invariant-loop-server
invariant-loop-server l = AreOn Discards l.initial.servers l.server-index l.servers
