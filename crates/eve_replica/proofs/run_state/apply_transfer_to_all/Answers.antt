use Rattle.std.proofs.Common.{arith}
use Rattle.std.specs.Arc.{arc_value}
use Rattle.eve_grammar.specs.Bodies.{transfer}
use Rattle.eve_replica.specs.inner.Commits.{MayTransferOrStay, TransfersOrStays}
use Rattle.eve_replica.proofs.CommonCommits.{TransfersWhatever}
use Rattle.eve_replica.proofs.ReplicaLists.{none_on, one_on, all_on, all_so, pairs_of, still}
use Rattle.eve_replica.proofs.run_state.apply_transfer_to_all.Goals as goal

pub apply_transfer_or_stay-requires-clause-whole : goal.apply_transfer_or_stay-requires-clause-whole
apply_transfer_or_stay-requires-clause-whole c =
    let x = transfer (arc_value c.args.state.now) in
    (still (MayTransferOrStay x) (TransfersWhatever x) c.args.servers.now c.loop-server.server-index
    c.loop-server.servers c.server-item.result c.requires c.loop-server.invariant (omega arith)).whole

pub apply_transfer_or_stay-requires-clause-right : goal.apply_transfer_or_stay-requires-clause-right
apply_transfer_or_stay-requires-clause-right c =
    let x = transfer (arc_value c.args.state.now) in
    (still (MayTransferOrStay x) (TransfersWhatever x) c.args.servers.now c.loop-server.server-index
    c.loop-server.servers c.server-item.result c.requires c.loop-server.invariant (omega arith)).right

pub apply_transfer_or_stay-requires-clause-live : goal.apply_transfer_or_stay-requires-clause-live
apply_transfer_or_stay-requires-clause-live c =
    let x = transfer (arc_value c.args.state.now) in
    (still (MayTransferOrStay x) (TransfersWhatever x) c.args.servers.now c.loop-server.server-index
    c.loop-server.servers c.server-item.result c.requires c.loop-server.invariant (omega arith)).live

pub apply_transfer_or_stay-requires-clause-next : goal.apply_transfer_or_stay-requires-clause-next
apply_transfer_or_stay-requires-clause-next c =
    let x = transfer (arc_value c.args.state.now) in
    (still (MayTransferOrStay x) (TransfersWhatever x) c.args.servers.now c.loop-server.server-index
    c.loop-server.servers c.server-item.result c.requires c.loop-server.invariant (omega arith)).next

pub loop-server-init : goal.loop-server-init
loop-server-init c = none_on (TransfersWhatever (transfer (arc_value c.args.state.now))) c.args.servers.now

pub loop-server-preserved : goal.loop-server-preserved
loop-server-preserved c =
    let made = c.in_ok-apply_transfer_or_stay.ensures in
    one_on (TransfersWhatever (transfer (arc_value c.args.state.now))) c.args.servers.now c.loop-server.server-index
    c.loop-server.servers c.server-item.result c.apply_transfer_or_stay.new.self (omega arith)
    (λ token. record { stays = made.stays; on = made.on token; transferred = made.transferred }) c.loop-server.invariant

pub returns : goal.returns
returns c = λ token.
    let x = transfer (arc_value c.args.state.now) in
    pairs_of (TransfersOrStays token x) c.args.servers.now c.loop-server.servers
    (all_so (TransfersWhatever x) (TransfersOrStays token x) c.args.servers.now c.loop-server.servers
    (λ old new takes. takes token)
    (all_on (TransfersWhatever x) c.args.servers.now c.loop-server.server-index c.loop-server.servers (omega arith)
    c.loop-server.invariant))
