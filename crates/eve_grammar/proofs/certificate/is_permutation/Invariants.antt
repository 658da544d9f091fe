use Rattle.std.proofs.Common.{length, take}
use Rattle.eve_grammar.proofs.Orders.{Marked}
use Rattle.eve_grammar.proofs.certificate.is_permutation.Given as goal

abbrev pub invariant-loop-index : goal.invariant-loop-index
invariant-loop-index l = Marked (length l.order) (take l.index-index l.order) l.seen
