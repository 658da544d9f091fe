use Rattle.std.proofs.Common.{arith}
use Rattle.eve_stamps.proofs.span.span_of.Goals as goal

pub returns-clause-rising : goal.returns-clause-rising
returns-clause-rising c = omega arith
