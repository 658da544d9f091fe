use Rattle.std.proofs.Common.{◌≡◌, ◌-◌}
use Rattle.eve_grammar.specs.Readers.{reply_at}
use Rattle.eve_grammar.specs.inner.Scans.{rest_at}
use Rattle.eve_grammar.proofs.attempt.pass_replies.Given as goal

abbrev pub invariant-loop : goal.invariant-loop
invariant-loop l = rest_at reply_at (l.count - l.counter) l.rest ≡ rest_at reply_at l.count l.bytes
