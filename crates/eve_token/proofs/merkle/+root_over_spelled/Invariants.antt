use Rattle.eve_token.proofs.merkle.+root_over_spelled.Given as goal

abbrev pub decreases-root_over_spelled : goal.decreases-root_over_spelled
decreases-root_over_spelled l = l.leaves
