use Rattle.std.proofs.Common.{rules}
use Rattle.eve_grammar.proofs.request.moved.Goals as goal

pub returns-in-3 : goal.returns-in-3
returns-in-3 c = search rules
