use Rattle.std.proofs.Common.{rules}
use Rattle.eve_grammar.proofs.frame_kind.FrameKind.of.Goals as goal

pub returns-in-32-clause-kind : goal.returns-in-32-clause-kind
returns-in-32-clause-kind c = search rules
