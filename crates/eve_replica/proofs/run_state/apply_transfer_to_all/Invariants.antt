use Rattle.std.specs.Arc.{arc_value}
use Rattle.eve_grammar.specs.Bodies.{transfer}
use Rattle.eve_replica.proofs.ReplicaLists.{AreOn}
use Rattle.eve_replica.proofs.CommonCommits.{TransfersWhatever}
use Rattle.eve_replica.proofs.run_state.apply_transfer_to_all.Given as goal

abbrev pub invariant-loop-server : goal.invariant-loop-server
invariant-loop-server l =
    AreOn (TransfersWhatever (transfer (arc_value l.state))) l.fn.servers l.server-index l.servers
