use Rattle.std.proofs.Common.{◌≡◌, ◌*◌, ◌≤◌, length, take}
use Rattle.std.specs.List.{flat_map}
use Rattle.eve_grammar.specs.Spelling.{batches_at}
use Rattle.eve_history.specs.inner.Repeats.{arrivals_at}
use Rattle.eve_history.proofs.repeats.request_count.Given as goal

abbrev pub invariant-loop-i : goal.invariant-loop-i
invariant-loop-i l = (l.count ≡ length (flat_map arrivals_at (take l.i (batches_at l.trace))))
    × (l.count ≤ 256 * l.i)
