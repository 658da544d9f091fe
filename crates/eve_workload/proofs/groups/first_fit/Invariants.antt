use Rattle.std.proofs.Common.{◌≡◌, [], length}
use Rattle.std.specs.List.{range_with_len}
use Rattle.eve_workload.specs.Mixers.{first_fit}
use Rattle.eve_workload.specs.inner.Groups.{rows_at, share_at}
use Rattle.eve_workload.specs.inner.Cut.{IsCut}
use Rattle.eve_workload.proofs.groups.first_fit.Given as goal

abbrev pub invariant-loop-request : goal.invariant-loop-request
invariant-loop-request l =
    (length l.cut.seats.items ≡ l.request-index)
    × IsCut l.cut (rows_at l.touched) (first_fit (share_at (rows_at l.touched)) [] (range_with_len 0 l.request-index))
