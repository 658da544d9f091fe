use Rattle.eve_replica.proofs.CommonCommits.{CommitsOrStops}
use Rattle.eve_replica.proofs.ReplicaLists.{AreOn}
use Rattle.eve_replica.proofs.run_state.commit_all.Given as goal

abbrev pub invariant-loop-server : goal.invariant-loop-server
invariant-loop-server l = AreOn (CommitsOrStops l.token) l.fn.servers l.server-index l.servers
