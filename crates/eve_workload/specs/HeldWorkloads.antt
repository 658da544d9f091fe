-- What contracts see of the struct `Workload`.
use Rattle.std.specs.Prelude.{map}
use Rattle.eve_write.specs.Data.{customer}
use Rattle.eve_workload.specs.declared.workload.Workload.TheInside.{Inside}
use Rattle.eve_workload.specs.Batches.{asked_lists}
use Rattle.eve_workload.specs.Workload.{Workload, IsWorkload}

abbrev pub workload_of : Inside → Workload
workload_of w = record {
  format = w.format;
  deployment = w.deployment;
  customers = map customer w.customers.items;
  batches = asked_lists w.batches.items;
}

-- what is true of every workload
pub record IsHeldWorkload (w : Inside) : Type 0 where
  pub workload : IsWorkload (workload_of w)
