use Rattle.std.proofs.Common.{◌≢◌, sym, ◌∙◌, below_more, arith}
use Rattle.std.specs.Arc.{arc_value}
use Rattle.std.proofs.lemmas.List.Elements.{at_read}
use Rattle.std.proofs.lemmas.Result.{IfOk-weaker}
use Rattle.eve_grammar.specs.Bodies.{transfer}
use Rattle.eve_replica.specs.inner.RunInvariant.{IsLentBy}
use Rattle.eve_replica.specs.inner.Commits.{IsLentByFirst}
use Rattle.eve_replica.proofs.CommonCommits.{lent_by_first, not_none}
use Rattle.eve_replica.proofs.run_state.state_committed.Goals as goal

pub loop-server-preserved : goal.loop-server-preserved
loop-server-preserved c =
    below_more _ _ c.loop-server.invariant
    (at_read c.args.servers.now (λ s. s.replica.ledger.committed ≢ c.args.seq) c.loop-server.server-index
    c.server-item.result (omega arith) c.server-item.is
    (λ reached. c.if-committed-seq.false (c.committed.ensures ∙ reached)))

pub unreachable-requires : goal.unreachable-requires
unreachable-requires c =
    not_none c.args.seq c.args.servers.now c.requires (λ k there d. c.loop-server.invariant k (omega arith) d)

pub returns-then-committed-seq-clause-lent : goal.returns-then-committed-seq-clause-lent
returns-then-committed-seq-clause-lent c =
    IfOk-weaker c.state.result (λ x. IsLentBy c.server-item.result (transfer (arc_value x)))
    (λ x. IsLentByFirst c.args.seq c.args.servers.now (transfer (arc_value x)))
    (λ x lent.
    lent_by_first c.args.seq c.args.servers.now c.loop-server.server-index c.server-item.result (transfer (arc_value x))
    (omega arith) c.server-item.is (λ i below d. c.loop-server.invariant i below d)
    (sym c.committed.ensures ∙ c.if-committed-seq.true) lent) c.state.ensures.lent
