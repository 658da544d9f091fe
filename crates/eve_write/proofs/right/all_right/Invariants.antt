-- The items so far are right.
use Rattle.std.proofs.Common.{◌≡◌, true, take}
use Rattle.std.specs.List.{list_all}
use Rattle.eve_write.proofs.right.all_right.Given as goal

abbrev pub invariant-loop-item : goal.invariant-loop-item
invariant-loop-item g l = list_all (g.T.Judge.right l.head) (take l.item-index l.items) ≡ true
