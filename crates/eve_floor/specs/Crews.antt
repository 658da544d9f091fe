-- The workers of a replica. docs/DEPLOYMENT.md, "Executions".
use Rattle.std.specs.Prelude.{ℕ, List, [], ◌∷◌, Option, None}
use Rattle.std.specs.Option.{option_or}
use Rattle.eve_recorder.specs.TicketViews.{TicketSource}
use Rattle.eve_floor.specs.declared.fault.ExecFault.{ExecFault}
use Rattle.eve_floor.specs.declared.workers.Member.{Member}

-- the fault of the lowest worker that has one
abbrev pub fault_of_lowest : List Member → Option ExecFault
fault_of_lowest [] = None
fault_of_lowest (m ∷ members) = option_or m.fault (fault_of_lowest members)

-- the workers of a replica: the tickets of ticks at which they have their seats, and how many there are
pub record Workforce : Type 0 where
  pub ticks : TicketSource
  pub many : ℕ
