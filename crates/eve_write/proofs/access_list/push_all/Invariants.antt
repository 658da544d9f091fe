-- The entries so far are appended.
use Rattle.std.proofs.Common.{◌≡◌, ◌+◌, ◌++◌, length, min, take, vec_len, vec_capacity}
use Rattle.eve_write.proofs.access_list.push_all.Given as goal

abbrev pub invariant-loop-place : goal.invariant-loop-place
invariant-loop-place l =
    (l.list.items ≡ l.initial.list.items ++ take l.place l.entries)
    × (vec_len l.list ≡ vec_len l.initial.list + min l.place (length l.entries))
    × (vec_capacity l.list ≡ vec_capacity l.initial.list)
