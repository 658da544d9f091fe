use Rattle.eve_token.proofs.tree.+mark_stale.Given as goal

abbrev pub decreases-mark_stale : goal.decreases-mark_stale
decreases-mark_stale l = l.leaves
