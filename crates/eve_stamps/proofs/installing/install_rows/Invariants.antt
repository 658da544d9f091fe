use Rattle.std.proofs.Common.{◌≡◌, ◌++◌, take, drop, map}
use Rattle.eve_stamps.specs.Stripes.{row_installed}
use Rattle.eve_stamps.proofs.installing.install_rows.Given as goal

abbrev pub invariant-loop-held : goal.invariant-loop-held
invariant-loop-held l = l.rows ≡ map (row_installed l.from) (take l.held-index l.initial.rows)
    ++ drop l.held-index l.initial.rows
