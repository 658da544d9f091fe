use Rattle.std.proofs.Common.{rules}
use Rattle.eve_grammar.proofs.attempt.certified_len.Goals as goal

pub returns-then-is_empty : goal.returns-then-is_empty
returns-then-is_empty c = search rules
