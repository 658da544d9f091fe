use Rattle.std.proofs.Common.{rules}
use Rattle.eve_write.proofs.parts.Parts.are_right.Goals as goal

pub returns-then-all_right-4 : goal.returns-then-all_right-4
returns-then-all_right-4 c = search rules
