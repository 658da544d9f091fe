use Rattle.std.proofs.Common.{rules}
use Rattle.eve_grammar.proofs.head.Head.is_right.Goals as goal

pub returns : goal.returns
returns c = search rules
