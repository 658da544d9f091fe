use Rattle.eve_grammar.proofs.HeadLimits.{head_has_limits, head_from_limits}
use Rattle.eve_grammar.proofs.laws.right_heads_have_limits.Goals as goal

pub returns-clause-limits : goal.returns-clause-limits
returns-clause-limits c = head_has_limits

pub returns-clause-right : goal.returns-clause-right
returns-clause-right c = head_from_limits
