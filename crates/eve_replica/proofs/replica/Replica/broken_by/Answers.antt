use Rattle.std.proofs.Common.{true, ap}
use Rattle.eve_replica.specs.Replicas.{Replica}
use Rattle.eve_replica.proofs.replica.Replica.broken_by.Goals as goal

pub returns-clause-broken : goal.returns-clause-broken
returns-clause-broken c = ap (λ (r : Replica). record r { is_broken = true }) c.self.view_is
