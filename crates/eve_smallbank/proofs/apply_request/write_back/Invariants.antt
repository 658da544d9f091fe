use Rattle.std.proofs.Common.{◌≡◌, drop, length}
use Rattle.eve_smallbank.specs.inner.FromValues.{balances_after}
use Rattle.eve_smallbank.proofs.apply_request.write_back.Given as goal

abbrev pub invariant-loop-place : goal.invariant-loop-place
invariant-loop-place l =
    (length l.balances ≡ length l.initial.balances)
    × (balances_after l.balances (drop l.place l.rows) (drop l.place l.effects)
    ≡ balances_after l.initial.balances l.rows l.effects)
