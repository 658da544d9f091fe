-- The sizes so far are summed up.
use Rattle.std.proofs.Common.{◌≡◌, ◌-◌, ◌^◌, min, sum, take}
use Rattle.eve_write.proofs.batch.total_of.Given as goal

abbrev pub invariant-loop-size : goal.invariant-loop-size
invariant-loop-size l = l.total ≡ min (sum (take l.size-index l.sizes)) (2 ^ 32 - 1)
