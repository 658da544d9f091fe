use Rattle.std.proofs.Common.{◌≡◌, ℕ, ◌+◌, false, arith}
use Rattle.eve_replica.specs.declared.server.Server.{Server}
use Rattle.eve_replica.specs.inner.Commits.{CommitsOrWaits}
use Rattle.eve_replica.proofs.ReplicaLists.{none_on, one_on, all_on, pairs_of, still}
use Rattle.eve_replica.proofs.run_state.commit_or_wait_all.Goals as goal

-- it isn't broken, and the batch with this number is its next
abbrev IsNext : ℕ → Server → Type 0
IsNext seq s = (s.replica.is_broken ≡ false) × (seq ≡ s.replica.ledger.committed + 1)

pub commit_or_wait-requires-clause-whole : goal.commit_or_wait-requires-clause-whole
commit_or_wait-requires-clause-whole c =
    (still (IsNext c.args.seq) (CommitsOrWaits c.args.token) c.args.servers.now c.loop-server.server-index
    c.loop-server.servers c.server-item.result c.requires c.loop-server.invariant (omega arith)).0

pub commit_or_wait-requires-clause-next : goal.commit_or_wait-requires-clause-next
commit_or_wait-requires-clause-next c =
    (still (IsNext c.args.seq) (CommitsOrWaits c.args.token) c.args.servers.now c.loop-server.server-index
    c.loop-server.servers c.server-item.result c.requires c.loop-server.invariant (omega arith)).1

pub loop-server-init : goal.loop-server-init
loop-server-init c = none_on (CommitsOrWaits c.args.token) c.args.servers.now

pub loop-server-preserved : goal.loop-server-preserved
loop-server-preserved c =
    let made = c.in_ok-commit_or_wait.ensures in
    one_on (CommitsOrWaits c.args.token) c.args.servers.now c.loop-server.server-index c.loop-server.servers
    c.server-item.result c.commit_or_wait.new.self (omega arith)
    (record { on = made.on; commits = made.committed; waits = made.waits }) c.loop-server.invariant

pub returns : goal.returns
returns c =
    pairs_of (CommitsOrWaits c.args.token) c.args.servers.now c.loop-server.servers
    (all_on (CommitsOrWaits c.args.token) c.args.servers.now c.loop-server.server-index c.loop-server.servers
    (omega arith) c.loop-server.invariant)
