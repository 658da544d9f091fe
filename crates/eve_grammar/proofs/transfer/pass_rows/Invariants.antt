use Rattle.std.proofs.Common.{◌≡◌, ◌-◌}
use Rattle.eve_grammar.specs.inner.Scans.{saved_at}
use Rattle.eve_grammar.proofs.transfer.pass_rows.Given as goal

abbrev pub invariant-loop-row : goal.invariant-loop-row
invariant-loop-row l = saved_at l.row (l.rows - l.row) l.rest ≡ saved_at 0 l.rows l.bytes
