use Rattle.std.proofs.Common.{◌≡◌, ◌++◌, map, get_or, take}
use Rattle.eve_history.proofs.structure.keep_records.Given as goal

abbrev pub invariant-loop-index : goal.invariant-loop-index
invariant-loop-index l = l.records.items ≡ l.fn.records.items ++ map (λ i. get_or l.marks.offsets i 0)
    (take l.index-index l.order)
