use Rattle.std.proofs.Common.{◌≡◌, ◌≤◌, vec_len, vec_capacity}
use Rattle.eve_floor.proofs.shared.starts_of.Given as goal

abbrev pub invariant-loop-index : goal.invariant-loop-index
invariant-loop-index l = (vec_len l.starts ≡ l.index) × (l.count ≤ vec_capacity l.starts)
