use Rattle.std.proofs.Common.{◌≡◌, ℕ, ◌<◌, ◌≤◌, bit_or}
use Rattle.std.specs.Prelude.{slice_index_or}
use Rattle.eve_workload.proofs.group_set.GroupSet.add_all.Given as goal

abbrev pub invariant-loop-place : goal.invariant-loop-place
invariant-loop-place l =
    ((k : ℕ) → k < l.place → slice_index_or l.self.words k 0 ≡ bit_or (slice_index_or l.initial.self.words k 0)
    (slice_index_or l.others.words k 0))
    × ((k : ℕ) → l.place ≤ k → slice_index_or l.self.words k 0 ≡ slice_index_or l.initial.self.words k 0)
