use Rattle.std.proofs.Common.{ℕ, ◌*◌, [], IsTrue, inl, inr, refl, sym, ◌∙◌, subst}
use Rattle.std.specs.Arc.{arc_value}
use Rattle.eve_grammar.specs.Bodies.{transfer}
use Rattle.eve_grammar.specs.Limits.{is_transfer}
use Rattle.eve_grammar.specs.Trace.{Transfer}
use Rattle.eve_replica.specs.inner.Commits.{CommitsOrWaits, TransfersOrStays}
use Rattle.eve_replica.proofs.CommonCommits.{all_ready, any_committed, may_all, reached_or_lent, stay_all}
use Rattle.eve_replica.proofs.ReplicaLists.{all_in_pairs}
use Rattle.eve_replica.proofs.States.{states_settled}
use Rattle.eve_replica.proofs.run_state.commit_or_transfer.Goals as goal

pub commit_or_wait_all-requires : goal.commit_or_wait_all-requires
commit_or_wait_all-requires c = λ k d there.
    let r = c.requires.awaits in
    ((r.serve k d there).whole, (all_ready c.args.seq c.args.servers.now r k d there).next)

pub state_committed-requires : goal.state_committed-requires
state_committed-requires c =
    let was = c.args.servers.now in
    let mids = c.commit_or_wait_all.new.servers in
    any_committed c.args.token c.args.seq was mids c.requires.decided (all_ready c.args.seq was c.requires.awaits)
    (all_in_pairs (CommitsOrWaits c.args.token) was mids c.in_ok-commit_or_wait_all.ensures)

pub apply_transfer_to_all-requires : goal.apply_transfer_to_all-requires
apply_transfer_to_all-requires c =
    let r = c.requires.awaits in
    let was = c.args.servers.now in
    let mids = c.commit_or_wait_all.new.servers in
    let x : Transfer = transfer (arc_value c.in_ok-state.state) in
    may_all r.plan r.at r.votes c.args.token c.args.seq x was mids r.serve (all_ready c.args.seq was r) r.awaits
    (subst (λ (n : ℕ). IsTrue (is_transfer (2 * n) x)) (sym r.customers) c.in_ok-state.ensures.right)
    (all_in_pairs (CommitsOrWaits c.args.token) was mids c.in_ok-commit_or_wait_all.ensures)
    c.in_ok-state.ensures.lent

-- ---- where all have committed

-- a state of the batch, which nobody needs
abbrev state_of : ℕ → Transfer
state_of seq = record { seq = seq; view = 0; rows = [] }

pub returns-then-have_all_committed-clause-on : goal.returns-then-have_all_committed-clause-on
returns-then-have_all_committed-clause-on c =
    let was = c.args.servers.now in
    let mids = c.commit_or_wait_all.new.servers in
    let x = state_of c.args.seq in
    let reached = c.have_all_committed.ensures c.if-have_all_committed.true in
    reached_or_lent c.args.head.now.customers c.args.seq c.args.token x was mids mids c.requires.awaits
    c.requires.decided refl
    (all_in_pairs (CommitsOrWaits c.args.token) was mids c.in_ok-commit_or_wait_all.ensures)
    (stay_all c.args.token x mids reached) (inl reached)

pub returns-then-have_all_committed-clause-states : goal.returns-then-have_all_committed-clause-states
returns-then-have_all_committed-clause-states c =
    let was = c.args.servers.now in
    let mids = c.commit_or_wait_all.new.servers in
    let x = state_of c.args.seq in
    states_settled c.args.token c.args.seq x was mids mids (all_ready c.args.seq was c.requires.awaits) refl
    (all_in_pairs (CommitsOrWaits c.args.token) was mids c.in_ok-commit_or_wait_all.ensures)
    (stay_all c.args.token x mids (c.have_all_committed.ensures c.if-have_all_committed.true))

-- ---- where some get by a transfer

pub returns-clause-on : goal.returns-clause-on
returns-clause-on c =
    let was = c.args.servers.now in
    let mids = c.commit_or_wait_all.new.servers in
    let servers = c.apply_transfer_to_all.new.servers in
    let x : Transfer = transfer (arc_value c.in_ok-state.state) in
    let lent = c.in_ok-state.ensures.lent in
    reached_or_lent c.args.head.now.customers c.args.seq c.args.token x was mids servers c.requires.awaits
    c.requires.decided (lent.lent.seq ∙ lent.committed)
    (all_in_pairs (CommitsOrWaits c.args.token) was mids c.in_ok-commit_or_wait_all.ensures)
    (all_in_pairs (TransfersOrStays c.args.token x) mids servers (c.in_ok-apply_transfer_to_all.ensures c.args.token))
    (inr lent)

pub returns-clause-states : goal.returns-clause-states
returns-clause-states c =
    let was = c.args.servers.now in
    let mids = c.commit_or_wait_all.new.servers in
    let servers = c.apply_transfer_to_all.new.servers in
    let x : Transfer = transfer (arc_value c.in_ok-state.state) in
    let lent = c.in_ok-state.ensures.lent in
    states_settled c.args.token c.args.seq x was mids servers (all_ready c.args.seq was c.requires.awaits)
    (lent.lent.seq ∙ lent.committed)
    (all_in_pairs (CommitsOrWaits c.args.token) was mids c.in_ok-commit_or_wait_all.ensures)
    (all_in_pairs (TransfersOrStays c.args.token x) mids servers (c.in_ok-apply_transfer_to_all.ensures c.args.token))
