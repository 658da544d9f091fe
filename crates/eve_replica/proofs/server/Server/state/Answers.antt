use Rattle.std.proofs.Common.{sym, subst}
use Rattle.eve_grammar.specs.Bodies.{transfer}
use Rattle.eve_grammar.specs.declared.transfer.TransferData.{TransferData}
use Rattle.eve_replica.specs.inner.RunInvariant.{IsLentBy}
use Rattle.eve_replica.proofs.server.Server.state.Goals as goal

pub returns-in-Ok-clause-lent : goal.returns-in-Ok-clause-lent
returns-in-Ok-clause-lent c =
    subst (λ (x : TransferData). IsLentBy c.args.self.now (transfer x)) (sym c.in-Ok.ensures.ok)
    (record { seq = c.committed.ensures; view = c.view.ensures; rows = c.in_ok-state.ensures })
