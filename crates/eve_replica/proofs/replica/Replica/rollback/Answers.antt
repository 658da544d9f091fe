use Rattle.std.proofs.Common.{subst}
use Rattle.eve_write.specs.Data.{rollback}
use Rattle.eve_attempts.specs.CommitsAndRollbacks.{RollsBack}
use Rattle.eve_replica.specs.Replicas.{Replica}
use Rattle.eve_replica.proofs.replica.Replica.rollback.Goals as goal

pub returns-clause-rolled_back : goal.returns-clause-rolled_back
returns-clause-rolled_back c =
    subst (λ (r : Replica). RollsBack r.ledger c.rollback.new.self (rollback c.in_ok-rollback.rollback))
    c.self.view_is c.in_ok-rollback.ensures.rolled_back
