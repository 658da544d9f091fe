use Rattle.std.proofs.Common.{◌≡◌, ℕ, ◌*◌, ◌<◌, true}
use Rattle.eve_workload.specs.inner.GroupSets.{has}
use Rattle.eve_workload.proofs.group_set.GroupSet.first_absent.Given as goal

abbrev pub invariant-loop-place : goal.invariant-loop-place
invariant-loop-place l = (l.before ≡ 64 * l.place) × ((group : ℕ) → group < l.before → has l.self group ≡ true)
