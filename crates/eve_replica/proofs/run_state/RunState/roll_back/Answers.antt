use Rattle.std.proofs.Common.{None, List, map, refl, sym, ap, ◌∙◌, subst, arith}
use Rattle.eve_write.specs.Data.{vote}
use Rattle.eve_replica.specs.declared.server.Server.{Server}
use Rattle.eve_replica.specs.declared.standing.Standing.{Standing}
use Rattle.eve_replica.specs.inner.RunInvariant.{Discards, GivesUpNext, GoesOn, IsDecision, Serves, after_rollback}
use Rattle.eve_replica.specs.inner.RunInvariant.{rollback_move}
use Rattle.eve_replica.proofs.ReplicaLists.{none_on, one_on, all_on, all_so, still}
use Rattle.eve_replica.proofs.Moves.{Moves, lent_serve, lent_undecided}
use Rattle.eve_replica.proofs.CommonMoves.{all_moved}
use Rattle.eve_replica.proofs.UndecidedBatches.{rolled_back_undecided}
use Rattle.eve_replica.proofs.Windows.{window_rolled_back}
use Rattle.eve_replica.proofs.run_state.RunState.roll_back.Goals as goal

pub roll_back-requires-clause-view : goal.roll_back-requires-clause-view
roll_back-requires-clause-view c = λ live.
    let p = c.requires.under_way.0 in
    let d = c.args.self.now in
    let lent = c.as_mut_slice-servers.result.now in
    let serve = lent_serve p d lent c.requires.under_way.1 c.as_mut_slice-servers.ensures.value in
    let old = still (Serves p d.standing (map vote d.votes.items)) Discards lent c.loop-server.server-index
    c.loop-server.servers c.server-item.result serve c.loop-server.invariant (omega arith) in
    let stands = ap (λ (s : Standing). s.view) (old.live live) in omega arith

pub roll_back-requires-clause-awaits : goal.roll_back-requires-clause-awaits
roll_back-requires-clause-awaits c = λ live.
    let p = c.requires.under_way.0 in
    let d = c.args.self.now in
    let lent = c.as_mut_slice-servers.result.now in
    let serve = lent_serve p d lent c.requires.under_way.1 c.as_mut_slice-servers.ensures.value in
    let old = still (Serves p d.standing (map vote d.votes.items)) Discards lent c.loop-server.server-index
    c.loop-server.servers c.server-item.result serve c.loop-server.invariant (omega arith) in
    let stands = ap (λ (s : Standing). s.opened) (old.live live) in omega arith

pub roll_back-requires-clause-missing : goal.roll_back-requires-clause-missing
roll_back-requires-clause-missing c =
    let p = c.requires.under_way.0 in
    let d = c.args.self.now in
    let lent = c.as_mut_slice-servers.result.now in
    let serve = lent_serve p d lent c.requires.under_way.1 c.as_mut_slice-servers.ensures.value in
    (still (Serves p d.standing (map vote d.votes.items)) Discards lent c.loop-server.server-index
    c.loop-server.servers c.server-item.result serve c.loop-server.invariant (omega arith)).missing

pub loop-server-init : goal.loop-server-init
loop-server-init c = none_on Discards c.as_mut_slice-servers.result.now

pub loop-server-preserved : goal.loop-server-preserved
loop-server-preserved c =
    let made = c.in_ok-roll_back.ensures in
    one_on Discards c.as_mut_slice-servers.result.now c.loop-server.server-index c.loop-server.servers
    c.server-item.result c.roll_back.new.self (omega arith) (made.on, made.live, made.given_up) c.loop-server.invariant

pub returns-clause-under_way : goal.returns-clause-under_way
returns-clause-under_way c = λ p was.
    let d = c.args.self.now in
    let due = was.due in
    let lent = c.as_mut_slice-servers.result.now in
    let given = c.loop-server.servers in
    let same = c.as_mut_slice-servers.ensures.value in
    let all = all_on Discards lent c.loop-server.server-index given (omega arith) c.loop-server.invariant in
    all_moved p d rollback_move (after_rollback d.standing) lent given c.vote_for_rollback.new.votes was same
    (all_so Discards (Moves rollback_move (λ s. s.is_live)) lent given (λ old new m. (m.0, m.1)) all)
    (λ some. absurd (omega arith), λ k below. absurd (omega arith))
    (λ k s there live. window_rolled_back p d.standing (omega arith))
    refl c.in_ok-vote_for_rollback.ensures.added refl refl (omega arith) c.in_ok-vote_for_rollback.ensures.on
    (rolled_back_undecided p d.standing (map vote d.votes.items) lent given was.begun
    (all_so Discards (λ old new. GoesOn rollback_move old new × GivesUpNext p old new) lent given
    (λ old new m. (m.0, m.2 p)) all) (lent_serve p d lent was same)
    (subst (λ (ss : List Server). IsDecision None ss) (sym same) c.requires.undecided)
    (lent_undecided p d lent was same))
    (all.many ∙ c.as_mut_slice-servers.ensures.len)
