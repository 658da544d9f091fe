use Rattle.std.proofs.Common.{subst}
use Rattle.eve_grammar.specs.FrameOrder.{Spells}
use Rattle.eve_views.proofs.trace.Trace.bytes.Goals as goal

pub returns : goal.returns
returns c = subst (Spells c.self.inside.bytes.now) c.self.view_is c.self.invariant.spells
