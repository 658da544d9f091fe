use Rattle.std.proofs.Common.{◌≡◌, ◌-◌, ◌*◌, ◌≤◌}
use Rattle.eve_grammar.specs.inner.Scans.{total_at}
use Rattle.eve_grammar.proofs.Loops.{plus}
use Rattle.eve_grammar.proofs.batch.total_at.Given as goal

abbrev pub invariant-loop : goal.invariant-loop
invariant-loop l = (plus l.total (total_at (l.count - l.counter) l.rest) ≡ total_at l.count l.bytes)
    × (l.total ≤ 65535 * l.counter)
