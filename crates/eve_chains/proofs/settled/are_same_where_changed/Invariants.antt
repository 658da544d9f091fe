use Rattle.std.proofs.Common.{◌≡◌, ◌-◌, true, take}
use Rattle.std.specs.List.{list_all}
use Rattle.eve_chains.specs.Changes.{changes_in_ranges}
use Rattle.eve_chains.specs.Numbered.{is_same_where_changed}
use Rattle.eve_chains.proofs.settled.are_same_where_changed.Given as goal

abbrev pub invariant-loop-range : goal.invariant-loop-range
invariant-loop-range l = list_all (is_same_where_changed l.balances l.others)
    (changes_in_ranges (l.n - 1) (take l.range-index l.ranges)) ≡ true
