use Rattle.std.proofs.Common.{◌≡◌, false, map, take}
use Rattle.eve_smallbank.specs.Chain.{Table}
use Rattle.eve_stamps.specs.Stripes.{row_in}
use Rattle.eve_stamps.specs.Requests.{is_worn}
use Rattle.eve_stamps.proofs.applying.are_worn.Given as goal

abbrev pub invariant-loop-place : goal.invariant-loop-place
invariant-loop-place l = (now : Table) → l.seen ≡ map (λ r. row_in now r.0) l.rows → is_worn now (take l.place l.rows)
    ≡ false
