use Rattle.std.proofs.Common.{◌≡◌, true, map, take}
use Rattle.std.specs.List.{list_all}
use Rattle.eve_chains.specs.Changes.{change_of}
use Rattle.eve_chains.specs.Numbered.{is_same_where_changed}
use Rattle.eve_chains.proofs.settled.is_same_in_each.Given as goal

abbrev pub invariant-loop-change : goal.invariant-loop-change
invariant-loop-change l =
    list_all (is_same_where_changed l.balances l.others) (map change_of (take l.change-index l.changes)) ≡ true
