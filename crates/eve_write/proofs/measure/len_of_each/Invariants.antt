-- The items so far are counted.
use Rattle.std.proofs.Common.{◌≡◌, ◌-◌, ◌^◌, min, take}
use Rattle.std.specs.List.{sum_by}
use Rattle.eve_write.proofs.measure.len_of_each.Given as goal

abbrev pub invariant-loop-item : goal.invariant-loop-item
invariant-loop-item g l = l.len ≡ min (sum_by g.T.Measure.size (take l.item-index l.items)) (2 ^ 64 - 1)
