use Rattle.eve_replica.specs.inner.Commits.{CommitsOrWaits}
use Rattle.eve_replica.proofs.ReplicaLists.{AreOn}
use Rattle.eve_replica.proofs.run_state.commit_or_wait_all.Given as goal

abbrev pub invariant-loop-server : goal.invariant-loop-server
invariant-loop-server l = AreOn (CommitsOrWaits l.token) l.fn.servers l.server-index l.servers
