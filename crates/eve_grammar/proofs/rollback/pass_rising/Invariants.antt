use Rattle.std.proofs.Common.{◌≡◌, ◌-◌}
use Rattle.eve_grammar.specs.inner.Scans.{rising_at}
use Rattle.eve_grammar.proofs.rollback.pass_rising.Given as goal

abbrev pub invariant-loop : goal.invariant-loop
invariant-loop l = rising_at l.rows l.least (l.count - l.counter) l.rest ≡ rising_at l.rows 0 l.count l.bytes
