-- Sets of groups, a bit for each.
use Rattle.std.specs.Prelude.{ℕ, ◌/◌, ◌%◌, ◌==◌, Bool, slice_index_or}
use Rattle.std.specs.Int.{bit_at}
use Rattle.eve_workload.specs.declared.group_set.GroupSet.{GroupSet}

-- whether the group is among them
abbrev pub has : GroupSet → ℕ → Bool
has set group = bit_at (slice_index_or set.words (group / 64) 0) (group % 64) == 1
