use Rattle.std.proofs.Common.{rules}
use Rattle.eve_write.proofs.RightParts.{tested, passed}
use Rattle.eve_write.proofs.parts.Parts.has_spelling.Goals as goal

pub returns-in-Some : goal.returns-in-Some
returns-in-Some c = (
  tested c.args.self.now c.in-Some.head c.are_right.result c.in-Some.ensures.head c.in-Some.ensures.right
      c.are_right.ensures,
  passed c.args.self.now c.in-Some.head c.are_right.result c.in-Some.ensures.head c.are_right.ensures,
)

pub returns-in-None : goal.returns-in-None
returns-in-None c = search rules
