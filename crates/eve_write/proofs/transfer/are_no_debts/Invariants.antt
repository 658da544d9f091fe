-- The rows so far are no debts where those to come are none.
use Rattle.std.proofs.Common.{◌≡◌, drop}
use Rattle.eve_grammar.specs.Limits.{are_no_debts}
use Rattle.eve_write.proofs.transfer.are_no_debts.Given as goal

abbrev pub invariant-loop-row : goal.invariant-loop-row
invariant-loop-row l = are_no_debts l.row (drop l.row l.rows) ≡ are_no_debts 0 l.rows
