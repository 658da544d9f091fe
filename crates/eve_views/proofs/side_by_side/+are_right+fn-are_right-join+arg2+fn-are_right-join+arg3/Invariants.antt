use Rattle.eve_views.proofs.side_by_side.+are_right+fn-are_right-join+arg2+fn-are_right-join+arg3.Given as goal

abbrev pub decreases-join+arg2 : goal.decreases-join+arg2
decreases-join+arg2 g l = l.fewer

abbrev pub decreases-join+arg3 : goal.decreases-join+arg3
decreases-join+arg3 g l = l.others

abbrev pub decreases-are_right : goal.decreases-are_right
decreases-are_right g l = l.threads
