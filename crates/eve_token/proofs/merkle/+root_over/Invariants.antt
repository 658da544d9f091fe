use Rattle.std.proofs.Common.{length}
use Rattle.eve_token.proofs.merkle.+root_over.Given as goal

abbrev pub decreases-root_over : goal.decreases-root_over
decreases-root_over g l = length l.leaves.now
