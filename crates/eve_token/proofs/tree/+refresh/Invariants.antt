use Rattle.std.proofs.Common.{length}
use Rattle.eve_token.proofs.tree.+refresh.Given as goal

abbrev pub decreases-refresh : goal.decreases-refresh
decreases-refresh l = length l.balances.now
