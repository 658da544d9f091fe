use Rattle.std.proofs.Common.{ap}
use Rattle.eve_workload.specs.Workload.{Workload}
use Rattle.eve_workload.proofs.workload.Workload.into_lists.Goals as goal

pub returns-clause-customers : goal.returns-clause-customers
returns-clause-customers c = ap (λ (w : Workload). w.customers) c.self.view_is

pub returns-clause-batches : goal.returns-clause-batches
returns-clause-batches c = ap (λ (w : Workload). w.batches) c.self.view_is
