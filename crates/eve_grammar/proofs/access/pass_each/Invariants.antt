use Rattle.std.proofs.Common.{◌≡◌, ◌-◌}
use Rattle.eve_grammar.specs.Readers.{entry_at}
use Rattle.eve_grammar.specs.inner.Scans.{rest_at}
use Rattle.eve_grammar.proofs.access.pass_each.Given as goal

abbrev pub invariant-loop : goal.invariant-loop
invariant-loop l = rest_at (entry_at l.rows) (l.count - l.counter) l.rest ≡ rest_at (entry_at l.rows) l.count l.bytes
