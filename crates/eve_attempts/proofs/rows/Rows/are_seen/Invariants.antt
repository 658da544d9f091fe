use Rattle.eve_smallbank.specs.Chain.{Sees}
use Rattle.eve_attempts.specs.Ledgers.{table_of_rows}
use Rattle.eve_attempts.proofs.Lists.{Goes}
use Rattle.eve_attempts.proofs.rows.Rows.are_seen.Given as goal

abbrev pub invariant-loop-place : goal.invariant-loop-place
invariant-loop-place l = Goes (Sees (table_of_rows l.self.rows)) l.entries l.place
