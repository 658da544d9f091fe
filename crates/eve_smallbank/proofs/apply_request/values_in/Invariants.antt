use Rattle.std.proofs.Common.{◌≡◌, map, take, length}
use Rattle.eve_smallbank.specs.Access.{balance_of_row}
use Rattle.eve_smallbank.proofs.apply_request.values_in.Given as goal

abbrev pub invariant-loop-place : goal.invariant-loop-place
invariant-loop-place l = (length l.values ≡ 3)
    × (take l.place l.values ≡ map (λ r. balance_of_row l.balances r.0) (take l.place l.rows))
