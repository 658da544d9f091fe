use Rattle.std.proofs.Common.{◌≡◌, take}
use Rattle.eve_smallbank.specs.Chain.{table_after}
use Rattle.eve_stamps.specs.Stripes.{table_in, rows_in_table}
use Rattle.eve_stamps.proofs.rows.write.Given as goal

abbrev pub invariant-loop-place : goal.invariant-loop-place
invariant-loop-place l = l.rows ≡ rows_in_table (table_after (table_in l.initial.rows) (take l.place l.entries))
    l.initial.rows
