use Rattle.std.proofs.Common.{◌≡◌, ◌*◌, length}
use Rattle.eve_test_deployment.proofs.ledger.opening.balances_of.Given as goal

abbrev pub invariant-loop-place : goal.invariant-loop-place
invariant-loop-place l = length l.balances ≡ 2 * length l.customers
