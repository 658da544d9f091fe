use Rattle.std.proofs.Common.{◌≡◌, ◌*◌, ◌<◌, length, get_or, ap, ◌∙◌, arith}
use Rattle.eve_replica.specs.declared.standing.Standing.{Standing}
use Rattle.eve_replica.specs.Decisions.{is_some_of}
use Rattle.eve_replica.specs.inner.RunInvariant.{Serves, GoesOn, commit_move, count_with, next_token}
use Rattle.eve_replica.proofs.CommonCommits.{CommitsOrStops, commit_grows, reached_by}
use Rattle.eve_replica.proofs.ReplicaLists.{none_on, one_on, all_on, all_so, still}
use Rattle.eve_replica.proofs.Moves.{live_on}
use Rattle.eve_replica.proofs.Steps.{some_open}
use Rattle.eve_replica.proofs.run_state.commit_all.Goals as goal

pub commit_or_stop-requires-clause-version : goal.commit_or_stop-requires-clause-version
commit_or_stop-requires-clause-version c =
    let r = c.requires.awaits.1 in
    (still (Serves r.plan r.at r.votes) (CommitsOrStops c.args.token) c.args.servers.now c.loop-server.server-index
    c.loop-server.servers c.server-item.result r.serve c.loop-server.invariant (omega arith)).version ∙ r.version

pub commit_or_stop-requires-clause-whole : goal.commit_or_stop-requires-clause-whole
commit_or_stop-requires-clause-whole c =
    let r = c.requires.awaits.1 in
    (still (Serves r.plan r.at r.votes) (CommitsOrStops c.args.token) c.args.servers.now c.loop-server.server-index
    c.loop-server.servers c.server-item.result r.serve c.loop-server.invariant (omega arith)).whole

pub commit_or_stop-requires-clause-next : goal.commit_or_stop-requires-clause-next
commit_or_stop-requires-clause-next c = λ live.
    let r = c.requires.awaits.1 in
    let old = still (Serves r.plan r.at r.votes) (CommitsOrStops c.args.token) c.args.servers.now
    c.loop-server.server-index c.loop-server.servers c.server-item.result r.serve c.loop-server.invariant (omega arith)
    in
    let stands = ap (λ (s : Standing). s.committed) (old.live live) in omega (arith, stands, r.next)

pub commit_or_stop-requires-clause-open : goal.commit_or_stop-requires-clause-open
commit_or_stop-requires-clause-open c = λ live.
    let r = c.requires.awaits.1 in
    let old = still (Serves r.plan r.at r.votes) (CommitsOrStops c.args.token) c.args.servers.now
    c.loop-server.server-index c.loop-server.servers c.server-item.result r.serve c.loop-server.invariant (omega arith)
    in
    let stands = ap (λ (s : Standing). s.opened) (old.live live) in
    let self = get_or c.loop-server.servers c.loop-server.server-index c.server-item.result in
    some_open self.missing (length self.replica.ledger.opened) self.replica.ledger.version old.missing.version
    (omega (arith, stands, r.awaits)) (old.version ∙ r.version)

pub loop-server-init : goal.loop-server-init
loop-server-init c = none_on (CommitsOrStops c.args.token) c.args.servers.now

pub loop-server-preserved : goal.loop-server-preserved
loop-server-preserved c =
    let made = c.in_ok-commit_or_stop.ensures in
    one_on (CommitsOrStops c.args.token) c.args.servers.now c.loop-server.server-index c.loop-server.servers
    c.server-item.result c.commit_or_stop.new.self (omega arith)
    (record { on = made.on; live = made.live; commits = made.committed; stays = made.stays }) c.loop-server.invariant

pub returns : goal.returns
returns c =
    let token = c.args.token in
    let was = c.args.servers.now in
    let servers = c.loop-server.servers in
    let all = all_on (CommitsOrStops token) was c.loop-server.server-index servers (omega arith) c.loop-server.invariant
    in
    let most : length was < 2 * count_with token was = c.requires.decided in
    let lives = live_on (λ s. is_some_of token (next_token s)) was servers
    (all_so (CommitsOrStops token) (λ old new. new.is_live ≡ is_some_of token (next_token old)) was servers
    (λ old new m. m.live) all) in
    reached_by 1 c.requires.awaits.0 c.args.seq token was servers c.requires.awaits.1 most
    (record {
      on = all_so (CommitsOrStops token) (GoesOn (commit_move token)) was servers (λ old new m. m.on) all;
      commits = all_so (CommitsOrStops token) _ was servers (λ old new m. m.commits) all;
    })
    (λ majority. omega (arith, most, all.many, lives))
    (λ p at votes serve left. commit_grows p at votes token was servers serve all)
