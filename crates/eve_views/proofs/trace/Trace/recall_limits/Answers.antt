use Rattle.std.proofs.Common.{subst}
use Rattle.eve_grammar.specs.FrameOrder.{Spells}
use Rattle.eve_grammar.proofs.Spelled.{limits_of_spelled}
use Rattle.eve_views.proofs.trace.Trace.recall_limits.Goals as goal

pub returns : goal.returns
returns c =
    limits_of_spelled c.self.inside.bytes.now c.args.self.now
    (subst (Spells c.self.inside.bytes.now) c.self.view_is c.self.invariant.spells)
