use Rattle.std.proofs.Common.{◌≡◌, ◌-◌}
use Rattle.eve_grammar.specs.Readers.{asked_at}
use Rattle.eve_grammar.specs.inner.Scans.{rest_at}
use Rattle.eve_grammar.proofs.batch.pass_requests.Given as goal

abbrev pub invariant-loop : goal.invariant-loop
invariant-loop l = rest_at asked_at (l.count - l.counter) l.rest ≡ rest_at asked_at l.count l.bytes
