use Rattle.std.proofs.Common.{sym, ap}
use Rattle.eve_views.specs.Code.{phase_of}
use Rattle.eve_views.proofs.fault.Code.phase.Goals as goal

pub returns-in-Restore : goal.returns-in-Restore
returns-in-Restore c = ap phase_of (sym c.in-Restore.is)
